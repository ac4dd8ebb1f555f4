-- Of private contracts.
-- Pieces as numbers, so that they can be part of what contracts see of a value.
use Rattle.std.specs.Prelude.{◌≡◌, ℕ, zero, suc, Bool, ◌⊎◌, refl}
use Rattle.std.proofs.Common.{inl, inr}
use Rattle.std.specs.Coded.{Coded, code_by, coded×, coded⊎, coded_ℕ, coded_bool}
use Rattle.qs_wire.specs.declared.stream_id.Dir.{Dir}
use Rattle.qs_wire.specs.declared.stream_id.Dir.TheVariants.{Bidi, Uni}
use Rattle.qs_send.specs.declared.parts.Chunk.{Chunk}
use Rattle.qs_send.specs.declared.piece.Item.{Item}
use Rattle.qs_send.specs.declared.piece.Item.TheVariants.{MaxData, MaxStreamData, MaxStreams, ResetStream, StopSending, DataBlocked, StreamDataBlocked, StreamsBlocked}
use Rattle.qs_send.specs.declared.piece.Piece.{Piece}
use Rattle.qs_send.specs.declared.piece.Piece.TheVariants.{Data, Told}

abbrev pub dir_number : Dir → ℕ
dir_number Bidi = 0
dir_number Uni = 1

abbrev pub dir_of : ℕ → Dir
dir_of zero = Bidi
dir_of (suc n) = Uni

abbrev pub item_numbers : Item → ℕ × (ℕ × (ℕ × ℕ))
item_numbers (MaxData m) = (0, (m, (0, 0)))
item_numbers (MaxStreamData n m) = (1, (n, (m, 0)))
item_numbers (MaxStreams d m) = (2, (dir_number d, (m, 0)))
item_numbers (ResetStream n code size) = (3, (n, (code, size)))
item_numbers (StopSending n code) = (4, (n, (code, 0)))
item_numbers (DataBlocked m) = (5, (m, (0, 0)))
item_numbers (StreamDataBlocked n m) = (6, (n, (m, 0)))
item_numbers (StreamsBlocked d m) = (7, (dir_number d, (m, 0)))

abbrev pub item_by : ℕ → ℕ → ℕ → ℕ → Item
item_by zero a b c = MaxData a
item_by (suc zero) a b c = MaxStreamData a b
item_by (suc (suc zero)) a b c = MaxStreams (dir_of a) b
item_by (suc (suc (suc zero))) a b c = ResetStream a b c
item_by (suc (suc (suc (suc zero)))) a b c = StopSending a b
item_by (suc (suc (suc (suc (suc zero))))) a b c = DataBlocked a
item_by (suc (suc (suc (suc (suc (suc zero)))))) a b c = StreamDataBlocked a b
item_by (suc (suc (suc (suc (suc (suc (suc n))))))) a b c = StreamsBlocked (dir_of a) b

pub item_back : (i : Item) → (let p = item_numbers i in item_by p.0 p.1.0 p.1.1.0 p.1.1.1) ≡ i
item_back (MaxData m) = refl
item_back (MaxStreamData n m) = refl
item_back (MaxStreams Bidi m) = refl
item_back (MaxStreams Uni m) = refl
item_back (ResetStream n code size) = refl
item_back (StopSending n code) = refl
item_back (DataBlocked m) = refl
item_back (StreamDataBlocked n m) = refl
item_back (StreamsBlocked Bidi m) = refl
item_back (StreamsBlocked Uni m) = refl

abbrev pub item_code : Coded Item
item_code =
    code_by (ℕ × (ℕ × (ℕ × ℕ))) (coded× coded_ℕ (coded× coded_ℕ (coded× coded_ℕ coded_ℕ))) item_numbers (λ p. item_by p.0 p.1.0 p.1.1.0 p.1.1.1) item_back

abbrev pub chunk_code : Coded Chunk
chunk_code =
    code_by (ℕ × (ℕ × Bool)) (coded× coded_ℕ (coded× coded_ℕ coded_bool)) (λ c. (c.offset, (c.len, c.fin)))
    (λ p. record { offset = p.0; len = p.1.0; fin = p.1.1 })
    (λ _. refl)

abbrev pub piece_cases : Piece → (ℕ × Chunk) ⊎ Item
piece_cases (Data n chunk) = inl (n, chunk)
piece_cases (Told item) = inr item

abbrev pub piece_of : (ℕ × Chunk) ⊎ Item → Piece
piece_of (inl p) = Data p.0 p.1
piece_of (inr item) = Told item

pub piece_back : (p : Piece) → piece_of (piece_cases p) ≡ p
piece_back (Data n chunk) = refl
piece_back (Told item) = refl

abbrev pub piece_code : Coded Piece
piece_code = code_by ((ℕ × Chunk) ⊎ Item) (coded⊎ (coded× coded_ℕ chunk_code) item_code) piece_cases piece_of piece_back
