-- The theorem about lists of writings, from the four laws alone.
use Rattle.codec.proofs.Prelude.{◌≡◌, refl, sym, ap, ◌∙◌, List, [], ◌∷◌, ◌++◌, map, append_assoc, append-nil, ℕ, ◌+◌, ◌-◌, ◌≤◌, arith, zero-add, add-zero, suc-add, add_assoc, length, take, drop, length-append, length-drop, take-append-drop, take-append_seam, drop-append_seam, take_at, drop_at, drop-drop, drop-length}
use Rattle.codec.specs.Answers.{Answer, accepted, refused, Outcome, wrote, refused_writing}
use Rattle.codec.specs.Format.{Format, Valid, put_buffer, write_answer}
use Rattle.codec.specs.Reader.{Reader}
use Rattle.codec.specs.Lawful.{Lawful}
use Rattle.codec.proofs.Lending.{put_wrote}
use Rattle.codec.specs.Writings.{All, Writings, write_all, answers_of, accepted_of, bytes_of, shown, read_all, Made}

module _ {A : Type 0} (f : Format A) where
  -- ---- the calls: p stands before the place, b from the place on
  record Run (vs : List A) (p b : List ℕ) (r : Writings) : Type 0 where
    answers : r.answers ≡ answers_of f vs (length b)
    place : r.place ≡ length p + length (bytes_of f (accepted_of f vs (length b)))
    buffer : r.buffer ≡ p ++ (bytes_of f (accepted_of f vs (length b)) ++ drop (length (bytes_of f (accepted_of f vs (length b)))) b)

  run : (vs : List A) (p b : List ℕ) (at : ℕ) (buf : List ℕ) → length p ≡ at → take at buf ≡ p → drop at buf ≡ b → Run vs p b (write_all f vs at buf)
  unfolding put_buffer
  run [] p b at buf l tp db = record { answers = refl; place = omega arith; buffer = cc (take-append-drop at buf) }
  run (v ∷ vs) p b at buf l tp db = go (write_answer f v (length b)) refl (run vs)
    where
      go : (o : Outcome) → write_answer f v (length b) ≡ o
          → ((p b : List ℕ) (at : ℕ) (buf : List ℕ) → length p ≡ at → take at buf ≡ p → drop at buf ≡ b → Run vs p b (write_all f vs at buf))
          → Run (v ∷ vs) p b (write_all f (v ∷ vs) at buf)
      go (refused_writing k) e ih =
          let r = ih p b at (p ++ b) l (take_at p b at l) (drop_at p b at l) in
          rw (tp, db, e) (record { answers = rw e (ap (λ (x : List Outcome). refused_writing k ∷ x) r.answers); place = rw e r.place; buffer = rw e r.buffer })
      go (wrote n) e ih =
          let w = put_wrote (f.check v) (f.encode v) (length b) n e in
          let long : n ≡ length (f.encode v) = w.long in
          let m = length (f.encode v) in
          let pl : length (p ++ f.encode v) ≡ at + n = simp length-append (omega arith) in
          let r = ih (p ++ f.encode v) (drop m b) (at + n) (p ++ (f.encode v ++ drop m b)) pl
          (rw (← append_assoc p (f.encode v) (drop m b)) (take_at (p ++ f.encode v) (drop m b) (at + n) pl))
          (rw (← append_assoc p (f.encode v) (drop m b)) (drop_at (p ++ f.encode v) (drop m b) (at + n) pl)) in
          let rest : length (drop m b) ≡ length b - n = rw length-drop (omega arith) in
          rw (tp, db, e) (record {
            answers = rw e (ap (λ (x : List Outcome). wrote n ∷ x) (r.answers ∙ ap (answers_of f vs) rest));
            place = rw e (r.place ∙ simp (length-append, length-drop, ← long) (omega arith));
            buffer = rw e (r.buffer ∙ simp (append_assoc, length-append, length-drop, drop-drop, ← long));
          })

  accepted_fits : (vs : List A) (room : ℕ) → length (bytes_of f (accepted_of f vs room)) ≤ room
  accepted_fits [] room = omega arith
  accepted_fits (v ∷ vs) room = go (write_answer f v room) refl (accepted_fits vs)
    where
      go : (o : Outcome) → write_answer f v room ≡ o → ((room : ℕ) → length (bytes_of f (accepted_of f vs room)) ≤ room) → length (bytes_of f (accepted_of f (v ∷ vs) room)) ≤ room
      go (refused_writing k) e ih = rw e (ih room)
      go (wrote n) e ih = rw e (simp length-append (omega (arith, ih (room - n), put_wrote (f.check v) (f.encode v) room n e)))

  module _ (Typed : A → Type 0) where
    pub accepted_valid : (vs : List A) → All Typed vs → (room : ℕ) → All (Valid Typed f) (accepted_of f vs room)
    accepted_valid [] h room = tt
    accepted_valid (v ∷ vs) h room = go (write_answer f v room) refl (accepted_valid vs h.1)
      where
        go : (o : Outcome) → write_answer f v room ≡ o → ((room : ℕ) → All (Valid Typed f) (accepted_of f vs room)) → All (Valid Typed f) (accepted_of f (v ∷ vs) room)
        go (refused_writing k) e ih = rw e (ih room)
        go (wrote n) e ih = rw e (record { typed = h.0; allows = (put_wrote (f.check v) (f.encode v) room n e).allows }, ih (room - n))

    module _ (strict : Reader A) (L : Lawful Typed f strict) where
      -- ---- as many readings as values, then m more from where those ended
      reads_then : (vs : List A) → All (Valid Typed f) vs → (s t : List ℕ) (at m : ℕ) → drop at s ≡ bytes_of f vs ++ t
          → read_all strict (length vs + m) s at ≡ map (shown f) vs ++ read_all strict m s (at + length (bytes_of f vs))
      reads_then [] ok s t at m e = rw (zero-add, add-zero)
      reads_then (v ∷ vs) ok s t at m e =
          let n = length (f.encode v) in
          let here : strict (drop at s) ≡ accepted v n = rw (e, append_assoc) (L.complete v ok.0 (bytes_of f vs ++ t)) in
          let rest : drop (at + n) s ≡ bytes_of f vs ++ t = rw (← drop-drop (length (f.encode v)) at s, e, append_assoc) (drop-append_seam (f.encode v) (bytes_of f vs ++ t)) in
          rw (suc-add, here) (ap (λ (l : List (Answer A)). accepted v n ∷ l) (reads_then vs ok.1 s t (at + n) m rest ∙ simp (length-append, add_assoc)))

      reads_all : (vs : List A) → All (Valid Typed f) vs → (t : List ℕ) → read_all strict (length vs) (bytes_of f vs ++ t) 0 ≡ map (shown f) vs
      reads_all vs ok t = simp (add-zero, append-nil) at (reads_then vs ok (bytes_of f vs ++ t) t 0 0 refl)

      reads_ended : (vs : List A) → All (Valid Typed f) vs → read_all strict (length vs + 1) (bytes_of f vs) 0 ≡ map (shown f) vs ++ (refused 1 ∷ [])
      reads_ended vs ok = simp (zero-add, drop-length, L.empty) at (reads_then vs ok (bytes_of f vs) [] 0 1 (sym (append-nil (bytes_of f vs))))

      -- ---- two different lists never make the same bytes
      here : (v : A) (vs : List A) → Valid Typed f v → strict (bytes_of f (v ∷ vs)) ≡ accepted v (length (f.encode v))
      here v vs ok = L.complete v ok (bytes_of f vs)

      pub same_bytes_same_values : (vs ws : List A) → All (Valid Typed f) vs → All (Valid Typed f) ws → bytes_of f vs ≡ bytes_of f ws → vs ≡ ws
      same_bytes_same_values [] [] p q e = refl
      same_bytes_same_values [] (w ∷ ws) p q e =
          let z : ◌≡◌ {A = ℕ} 0 1 = cc (L.empty, here w ws q.0) in
          absurd (omega arith)
      same_bytes_same_values (v ∷ vs) [] p q e =
          let z : ◌≡◌ {A = ℕ} 0 1 = cc (L.empty, here v vs p.0) in
          absurd (omega arith)
      same_bytes_same_values (v ∷ vs) (w ∷ ws) p q e =
          let vw : v ≡ w = cc (here v vs p.0, here w ws q.0) in
          let rest : bytes_of f vs ≡ bytes_of f ws = cc (drop-append_seam (f.encode v) (bytes_of f vs), drop-append_seam (f.encode w) (bytes_of f ws)) in
          cc (same_bytes_same_values vs ws p.1 q.1 rest)

      -- ---- the claim whole
      pub writings_made : (vs : List A) → All Typed vs → (lent : List ℕ) → Made f strict vs lent (write_all f vs 0 lent)
      writings_made vs ok lent =
          let r = run vs [] lent 0 lent refl refl refl in
          let acc = accepted_of f vs (length lent) in
          let fits : length (bytes_of f acc) ≤ length lent = accepted_fits vs (length lent) in
          let pl : (write_all f vs 0 lent).place ≡ length (bytes_of f acc) = omega (arith, r.place) in
          let be : take (write_all f vs 0 lent).place (write_all f vs 0 lent).buffer ≡ bytes_of f acc = rw (pl, r.buffer) (take-append_seam _ _) in
          record {
            answers = r.answers;
            before = be;
            after = rw (pl, r.buffer) (drop-append_seam (bytes_of f acc) _);
            place = pl;
            size = rw r.buffer (simp (length-append, length-drop) (omega arith));
            inside = omega arith;
            read = λ t. rw be (reads_all acc (accepted_valid vs ok (length lent)) t);
            ended = rw be (reads_ended acc (accepted_valid vs ok (length lent)));
          }
