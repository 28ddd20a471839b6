-- What the functions of this crate put and answer.
use Rattle.std.specs.Prelude.{◌≡◌, List, ◌++◌, cond, ℕ, ◌+◌, leb, length}
use Rattle.codec.specs.Answers.{outcome_of, decode_number}
use Rattle.text.specs.Buffer.{over_at}
use Rattle.text.specs.Decimal.{decimal_text}
use Rattle.text.specs.Hex.{hex_text}
use Rattle.text.specs.declared.Writer.{Writer}
use Rattle.case_text.specs.declared.Answer.{Answer}
use Rattle.case_text.specs.declared.Answer.TheVariants as answer
use Rattle.case_text.specs.declared.AnswerIn.{AnswerIn}
use Rattle.case_text.specs.declared.AnswerIn.TheVariants as answer_in
use Rattle.case_text.specs.Limits.{max_answer}
use Rattle.case_text.specs.Bytes.{bytes_of, text_of}
use Rattle.case_text.specs.Texts.{ok_text, no_text, after_tab, length_text, written_text}

-- the text of an answer
abbrev pub answer_text : Answer → List ℕ
answer_text (answer.Read consumed text) = ok_text consumed ++ after_tab (bytes_of text)
answer_text (answer.Number d) = ok_text d.consumed ++ after_tab (decimal_text d.value)
answer_text (answer.NotRead e) = no_text (decode_number e)
answer_text (answer.Written outcome lent) = written_text (outcome_of outcome) (bytes_of lent)
answer_text (answer.WrittenNumber n tag lent) = ok_text n ++ (after_tab (decimal_text tag) ++ after_tab (hex_text (bytes_of lent)))
answer_text (answer.Length outcome) = length_text (outcome_of outcome)

-- the same of one whose bytes lie in a lent buffer
abbrev pub answer_in_text : AnswerIn → List ℕ
answer_in_text (answer_in.Read consumed text) = ok_text consumed ++ after_tab (text_of text)
answer_in_text (answer_in.Number d) = ok_text d.consumed ++ after_tab (decimal_text d.value)
answer_in_text (answer_in.NotRead e) = no_text (decode_number e)
answer_in_text (answer_in.Written outcome lent) = written_text (outcome_of outcome) (text_of lent)
answer_in_text (answer_in.WrittenNumber n tag lent) = ok_text n ++ (after_tab (decimal_text tag) ++ after_tab (hex_text (text_of lent)))
answer_in_text (answer_in.Length outcome) = length_text (outcome_of outcome)

-- a text was put into the buffer l from a place on; it is now l', and r is the next place
pub record PutsText (at : ℕ) (t l l' : List ℕ) (r : ℕ) : Type 0 where
  pub place : r ≡ at + length t
  pub buffer : l' ≡ over_at at t l

-- the same by a writer
abbrev pub Puts : List ℕ → Writer → Writer → Type 0
Puts t w w' = PutsText w.at t w.out.now w'.out.now w'.at

-- the same where `room` bytes are free, else nothing
pub record PutsWithin (room at : ℕ) (t l l' : List ℕ) (r : ℕ) : Type 0 where
  pub place : r ≡ cond (leb (at + room) (length l)) (at + length t) at
  pub buffer : l' ≡ cond (leb (at + room) (length l)) (over_at at t l) l

-- a line's answer, by a writer
abbrev pub Answers : List ℕ → Writer → Writer → Type 0
Answers t w w' = PutsWithin max_answer w.at t w.out.now w'.out.now w'.at
