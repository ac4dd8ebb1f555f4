use Rattle.std.proofs.Common.{rules, ◌≡◌, ◌≤◌, ◌^◌, ℕ, max, arith, sym, subst}
use Rattle.qs_wire.specs.declared.stream_id.Dir.{Dir}
use Rattle.qs_wire.specs.declared.stream_id.Dir.TheVariants.{Bidi, Uni}
use Rattle.qs_conn.specs.declared.by_dir.ByDir.{ByDir}
use Rattle.qs_conn.specs.ByDir.{of_dir, with_dir}
use Rattle.qs_conn.proofs.Cores.{kept_known}
use Rattle.qs_conn.proofs.endpoint.Endpoint.on_max_streams.Goals as goal

-- neither count falls, and each has a text
record Rises (known now : ByDir ℕ) : Type 0 where
  pub bidi : known.bidi ≤ now.bidi
  pub uni : known.uni ≤ now.uni
  pub few_bidi : now.bidi ≤ 2 ^ 60
  pub few_uni : now.uni ≤ 2 ^ 60

rises : (dir : Dir) (known now : ByDir ℕ) (count greater : ℕ) → known.bidi ≤ 2 ^ 60 → known.uni ≤ 2 ^ 60 → count ≤ 2 ^ 60 → greater ≡ max (of_dir known dir) count → now ≡ with_dir dir greater known → Rises known now
rises Bidi known now count greater bidi uni small is set = subst (Rises known) (sym set) (record { bidi = omega (arith, is); uni = omega arith; few_bidi = omega (arith, is, bidi, small); few_uni = uni })
rises Uni known now count greater bidi uni small is set = subst (Rises known) (sym set) (record { bidi = omega arith; uni = omega (arith, is); few_bidi = bidi; few_uni = omega (arith, is, uni, small) })

pub invariant_of-self : goal.invariant_of-self
invariant_of-self c =
    let core = c.self.inside.core in
    let fits = c.self.invariant.rest.core.fits in
    let more = rises c.args.dir core.limits.known_streams c.set.new.self c.args.count c.max.result fits.bidi fits.uni c.requires (search rules) c.set.ensures in
    kept_known _ _ _ _ _ _ c.self.invariant _ _ (omega arith) more.bidi more.uni fits.known more.few_bidi more.few_uni
