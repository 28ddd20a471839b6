-- Which bytes stand for which value: the relations of the readers' laws.
use mathlib.Core.Path.{◌≡◌}
use mathlib.Core.List.{List}
use mathlib.Core.Bool.{Bool, true}
use Prim.Native.Nat.{ℕ, ◌+◌}
use lib.ListN.{length}
use Rattle.codec.specs.Writings.{All}
use Rattle.compact_u64.specs.Number.{U64}
use Rattle.path.specs.Limits.{total_of, Component}
use Rattle.path_suffix.specs.declared.Sizes.{Sizes}
use Rattle.path_suffix.specs.Suffix.{sized_bytes, component_bytes, sizes_bytes, suffix_bytes}

pub record SizesAs (h : Sizes) (e : List ℕ) : Type 0 where
  pub total : U64 h.total
  pub count : U64 h.count
  pub bytes : e ≡ sizes_bytes h

pub record SizedAs (c : List ℕ) (e : List ℕ) : Type 0 where
  pub ok : Component c
  pub bytes : e ≡ sized_bytes c

pub record LastAs (used total : ℕ) (c : List ℕ) (e : List ℕ) : Type 0 where
  pub ok : Component c
  pub sum : used + length c ≡ total
  pub bytes : e ≡ c

pub record ComponentsAs (n used total : ℕ) (cs : List (List ℕ)) (e : List ℕ) : Type 0 where
  pub count : length cs ≡ n
  pub all : All Component cs
  pub sum : used + total_of cs ≡ total
  pub bytes : e ≡ component_bytes cs

pub record SuffixAs (within : ℕ → ℕ → Bool) (cs : List (List ℕ)) (e : List ℕ) : Type 0 where
  pub total : U64 (total_of cs)
  pub count : U64 (length cs)
  pub limited : within (total_of cs) (length cs) ≡ true
  pub all : All Component cs
  pub bytes : e ≡ suffix_bytes cs

-- what is read has, in either mode
pub record ComponentsOk (n used total : ℕ) (cs : List (List ℕ)) : Type 0 where
  pub count : length cs ≡ n
  pub all : All Component cs
  pub sum : used + total_of cs ≡ total

pub record SuffixOk (within : ℕ → ℕ → Bool) (cs : List (List ℕ)) : Type 0 where
  pub limited : within (total_of cs) (length cs) ≡ true
  pub all : All Component cs
