use Rattle.codec.proofs.Prelude.{◌≡◌, refl, sym, Bool, true, false, ℕ, ◌+◌, ◌-◌, ◌<◌, arith, leb, le-leb, lt-leb, leb-true, leb-false}
use Rattle.range_header.specs.Header.{header_length}
use Rattle.range3d_range3d_decode.proofs.has_header.Goals as goal

room : (h i n : ℕ) → i < n → leb h (n - i) ≡ leb (i + h) n
room h i n l = go (leb h (n - i)) refl
  where
    go : (b : Bool) → leb h (n - i) ≡ b → b ≡ leb (i + h) n
    go true e = sym (le-leb (i + h) n (omega (arith, leb-true h (n - i) e)))
    go false e = sym (lt-leb (i + h) n (omega (arith, leb-false h (n - i) e)))

pub returns-then-len-start : goal.returns-then-len-start
returns-then-len-start c = let a = c.args in rw (lt-leb (a.start + header_length) a.len (omega (arith, c.if-len-start.true)))

pub returns : goal.returns
returns c = let a = c.args in room header_length a.start a.len c.if-len-start.false
