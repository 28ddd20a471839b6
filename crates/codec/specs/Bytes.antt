-- Two lists of bytes compared; ids and digests, which have 32 bytes.
use Rattle.std.specs.Prelude.{◌≡◌, List, [], ◌∷◌, Bool, true, false, ◌&&◌, ℕ, eqb, length, replicate}
use Rattle.codec.specs.Answers.{AllBytes}

abbrev pub same_bytes : List ℕ → List ℕ → Bool
same_bytes [] [] = true
same_bytes [] (b ∷ t) = false
same_bytes (a ∷ s) [] = false
same_bytes (a ∷ s) (b ∷ t) = eqb a b && same_bytes s t

-- what the language says of an id or a digest
abbrev pub TypedId : List ℕ → Type 0
TypedId id = (length id ≡ 32) × AllBytes id

abbrev pub zero_id : List ℕ
zero_id = replicate 32 0
