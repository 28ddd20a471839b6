-- Answers of readers that leave a value in a lent record, at their exits and after bytes that were read before.
use Rattle.codec.proofs.Prelude.{◌≡◌, ◌∙◌, Bool, true, false, ℕ, ◌+◌, arith}
use Rattle.std.specs.Prelude.{Ok, Err}
use Rattle.codec.specs.declared.Decoded.{Decoded}
use Rattle.codec.specs.declared.DecodeError.{DecodeError}
use Rattle.codec.specs.declared.DecodeError.TheVariants as decoding
use Rattle.codec.specs.Answers.{Answer, accepted, refused, decode_number, Gives}
use Rattle.codec.specs.Reader.{bind, shift, passed, Joins}

pub accepted_not_refused : {A : Type 0} (a : A) (n k : ℕ) → accepted a n ≡ refused k → ⊥
accepted_not_refused a n k e = let z : ◌≡◌ {A = ℕ} 0 1 = cc in omega arith

pub gives_refused : {A : Type 0} {blank : A} {x : Answer A} (e : DecodeError) → refused (decode_number e) ≡ x → Gives blank (Err e) blank x
gives_refused e f = record { answer = f; value = rw (← f) }

module _ {A : Type 0} {blank a : A} {x : Answer A} where
  pub gives_accepted : (n : ℕ) → accepted a n ≡ x → Gives blank (Ok n) a x
  gives_accepted n f = record { answer = f; value = rw (← f) }

  -- an answer handed on, n bytes before it
  pub later_accepted : (n m : ℕ) → Gives blank (Ok m) a x → Gives blank (Ok (n + m)) a (shift n x)
  later_accepted n m g = record { answer = rw (← g.answer); value = rw (← g.answer) }

  pub later_refused : (n : ℕ) (e : DecodeError) → Gives blank (Err e) a x → Gives blank (Err e) a (shift n x)
  later_refused n e g = let f = g.answer in record { answer = rw (← f); value = g.value ∙ rw (← f) }

  -- a refusal is the same, whatever was to come after a value
  pub bind_refused : (f : A → ℕ → Answer A) (e : DecodeError) → Gives blank (Err e) a x → Gives blank (Err e) a (bind x f)
  bind_refused f e g = let h = g.answer in record { answer = rw (← h); value = g.value ∙ rw (← h) }

  -- a value that was read is tested: it is kept, or the record is made blank
  module _ (t : A → Bool) (n : ℕ) (g : Gives blank (Ok n) a x) where
    pub test_passed : t a ≡ true → Gives blank (Ok n) a (bind x (λ v m. passed (t v) (accepted v m)))
    test_passed e = let h : accepted a n ≡ x = g.answer in record { answer = rw (← h, e); value = rw (← h, e) }

    pub test_failed : t a ≡ false → Gives blank (Err decoding.TheirFault) blank (bind x (λ v m. passed (t v) (accepted v m)))
    test_failed e = let h : accepted a n ≡ x = g.answer in gives_refused decoding.TheirFault (rw (← h, e))

module _ {H B A : Type 0} {join : H → B → A} {blank b : B} {x : Answer A} where
  pub joins_refused : (e : DecodeError) → b ≡ blank → refused (decode_number e) ≡ x → Joins join blank (Err e) b x
  joins_refused e p f = record { answer = f; beside = λ k q. p }

  pub joins_accepted : (d : Decoded H) → accepted (join d.value b) d.consumed ≡ x → Joins join blank (Ok d) b x
  joins_accepted d f = record { answer = f; beside = λ k q. absurd (accepted_not_refused _ _ k (f ∙ q)) }
