-- The text of an answer: docs/CASES.md.
use Rattle.std.specs.Prelude.{List, ◌++◌, ℕ}
use Rattle.codec.specs.Answers.{Answer, accepted, refused, Outcome, wrote, refused_writing}
use Rattle.text.specs.Decimal.{decimal_text}
use Rattle.text.specs.Hex.{hex_text}
use Rattle.text.specs.Ascii.{ascii}

-- `no`, a tab, 6: a line that is not in its form
abbrev pub six : List ℕ
six = ascii "no\t6"

-- `ok`, a tab, a number
unfoldable pub ok_text : ℕ → List ℕ
ok_text n = ascii "ok\t" ++ decimal_text n

-- `no`, a tab, a refusal's number
unfoldable pub no_text : ℕ → List ℕ
no_text k = ascii "no\t" ++ decimal_text k

abbrev pub after_tab : List ℕ → List ℕ
after_tab t = ascii "\t" ++ t

abbrev pub ended : List ℕ → List ℕ
ended t = t ++ ascii "\n"

-- reading: the bytes consumed, and the value as it prints
abbrev pub read_text : {A : Type 0} → (A → List ℕ) → Answer A → List ℕ
read_text print (accepted a n) = ok_text n ++ after_tab (print a)
read_text print (refused k) = no_text k

-- written length
abbrev pub length_text : Outcome → List ℕ
length_text (wrote n) = ok_text n
length_text (refused_writing k) = no_text k

-- writing: the length, and the whole buffer afterwards
abbrev pub written_text : Outcome → List ℕ → List ℕ
written_text o buffer = length_text o ++ after_tab (hex_text buffer)

-- the same of a number after its tag, with the tag
abbrev pub written_number_text : Outcome → ℕ → List ℕ → List ℕ
written_number_text (wrote n) tag buffer = ok_text n ++ (after_tab (decimal_text tag) ++ after_tab (hex_text buffer))
written_number_text (refused_writing k) tag buffer = written_text (refused_writing k) buffer
