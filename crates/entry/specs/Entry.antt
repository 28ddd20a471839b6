-- docs/FORMAT.md, "Entries": an entry on plain values.
use Rattle.std.specs.Prelude.{Some, List, Bool, ◌&&◌, ℕ}
use Rattle.codec.specs.Bytes.{same_bytes, TypedId}
use Rattle.compact_u64.specs.Number.{U64}
use Rattle.path.specs.Limits.{TypedComponents}
use Rattle.path.specs.Prefix.{is_prefix}
use Rattle.grouping.specs.Range.{includes_time}
use Rattle.grouping.specs.Area.{AreaValue, includes_subspace}

pub record EntryValue : Type 0 where
  pub namespace : List ℕ
  pub subspace : List ℕ
  pub path : List (List ℕ)
  pub time : ℕ
  pub size : ℕ
  pub digest : List ℕ

-- what the language says of a value
pub record TypedEntryValue (v : EntryValue) : Type 0 where
  pub namespace : TypedId v.namespace
  pub subspace : TypedId v.subspace
  pub path : TypedComponents v.path
  pub time : U64 v.time
  pub size : U64 v.size
  pub digest : TypedId v.digest

-- an entry lies inside a namespace and an area: the same namespace, a subspace and a path that the area includes, and a time in its range
unfoldable pub entry_lies_inside : List ℕ → AreaValue → EntryValue → Bool
entry_lies_inside n r v =
    same_bytes n v.namespace
    && (includes_subspace r.subspace (Some v.subspace)
    && (is_prefix r.path v.path
    && includes_time r.times v.time))
