use Rattle.qs_conn.proofs.Dues.{told_same}
