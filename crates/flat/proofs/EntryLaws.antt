-- Entries as flat bytes: there and back.
use Rattle.codec.proofs.Prelude.{◌≡◌, refl, sym, ap, ◌∙◌, List, ◌++◌, append_assoc, true, ℕ, arith, length, take, drop, length-append, length-drop, take_all, take_at, drop_at, drop-drop, take-add}
use Rattle.codec.specs.Answers.{AllBytes}
use Rattle.codec.proofs.Bytes.{AllBytes-drop}
use Rattle.compact_u64.specs.BigEndian.{big_endian, value_of}
use Rattle.entry.specs.Record.{Entry, fields_of, entry_with, well_formed_entry, TypedEntry}
use Rattle.path.specs.Flat.{path_size, path_flat, path_in}
use Rattle.flat.specs.EntryRecord.{entry_size, entry_time_start, entry_length_start, entry_digest_start, entry_flat, entry_in}
use Rattle.path.proofs.Loads.{number_loads, number_stores, path_long, path_loads, path_stores}
use Rattle.flat.proofs.PathLaws.{path_within_lem}
use Rattle.flat.proofs.TimesLaws.{drop_two, three}

pub entry_long : (e : Entry) → TypedEntry e → length (entry_flat e) ≡ entry_size
unfolding entry_flat
entry_long e t =
    rw (length-append, length-append, length-append, path_long e.path t.path) (omega (arith, t.namespace.0, t.subspace.0, t.digest.0))

-- where the parts stand
module _ (n s p a b d : List ℕ) (ln : length n ≡ 32) (ls : length s ≡ 32) (lp : length p ≡ path_size) (la : length a ≡ 8) (lb : length b ≡ 8) where
  abbrev entry_parts : List ℕ
  entry_parts = (n ++ s) ++ (p ++ (a ++ (b ++ d)))

  namespace_part : take 32 entry_parts ≡ n
  namespace_part = rw (append_assoc n s (p ++ (a ++ (b ++ d)))) (take_at n (s ++ (p ++ (a ++ (b ++ d)))) 32 ln)

  subspace_part : take 32 (drop 32 entry_parts) ≡ s
  subspace_part =
      rw (append_assoc n s (p ++ (a ++ (b ++ d))), drop_at n (s ++ (p ++ (a ++ (b ++ d)))) 32 ln)
      (take_at s (p ++ (a ++ (b ++ d))) 32 ls)

  path_part : drop 64 entry_parts ≡ p ++ (a ++ (b ++ d))
  path_part = drop_at (n ++ s) (p ++ (a ++ (b ++ d))) 64 (length-append n s ∙ omega (arith, ln, ls))

  time_part : drop entry_time_start entry_parts ≡ a ++ (b ++ d)
  time_part = drop_two (n ++ s) p (a ++ (b ++ d)) 64 path_size (length-append n s ∙ omega (arith, ln, ls)) lp

  length_part : drop entry_length_start entry_parts ≡ b ++ d
  length_part = sym (drop-drop 8 entry_time_start entry_parts) ∙ rw time_part (drop_at a (b ++ d) 8 la)

  digest_part : drop entry_digest_start entry_parts ≡ d
  digest_part = sym (drop-drop 8 entry_length_start entry_parts) ∙ rw length_part (drop_at b d 8 lb)

pub entry_loads : (e : Entry) → TypedEntry e → well_formed_entry e ≡ true → entry_in (entry_flat e) ≡ e
unfolding entry_flat entry_in
entry_loads e t w =
    go (big_endian 8 e.timestamp) (big_endian 8 e.payload_length) refl refl
  where
    go : (a b : List ℕ) → a ≡ big_endian 8 e.timestamp → b ≡ big_endian 8 e.payload_length
        → entry_in ((e.namespace_id ++ e.subspace_id) ++ (path_flat e.path ++ (a ++ (b ++ e.payload_digest)))) ≡ e
    go a b ea eb =
        let n = e.namespace_id in
        let s = e.subspace_id in
        let p = path_flat e.path in
        let d = e.payload_digest in
        let ln = t.namespace.0 in
        let ls = t.subspace.0 in
        let lp = path_long e.path t.path in
        let la : length a ≡ 8 = ap length ea in
        let lb : length b ≡ 8 = ap length eb in
        let time : value_of (take 8 (a ++ (b ++ d))) ≡ e.timestamp = rw ea (number_loads 8 e.timestamp (b ++ d) (omega (arith, t.time))) in
        let size : value_of (take 8 (b ++ d)) ≡ e.payload_length = rw eb (number_loads 8 e.payload_length d (omega (arith, t.size))) in
        rw (
          namespace_part n s p a b d ln ls lp la lb,
          subspace_part n s p a b d ln ls lp la lb,
          path_part n s p a b d ln ls lp la lb,
          time_part n s p a b d ln ls lp la lb,
          length_part n s p a b d ln ls lp la lb,
          digest_part n s p a b d ln ls lp la lb,
          path_loads e.path (a ++ (b ++ d)) t.path w,
          time,
          size,
          take_all 32 d (omega (arith, t.digest.0)),
        )

pub entry_stores : (s : List ℕ) → length s ≡ entry_size → AllBytes s → well_formed_entry (entry_in s) ≡ true → entry_flat (entry_in s) ≡ s
unfolding entry_flat entry_in
entry_stores s long b w =
    let path = path_stores (drop 64 s) (rw length-drop (omega arith)) (AllBytes-drop 64 s b) in
    let time = number_stores 8 (drop entry_time_start s) (rw length-drop (omega arith)) (AllBytes-drop entry_time_start s b) in
    let size = number_stores 8 (drop entry_length_start s) (rw length-drop (omega arith)) (AllBytes-drop entry_length_start s b) in
    whole (path_flat (path_in (drop 64 s))) (big_endian 8 (value_of (take 8 (drop entry_time_start s)))) (big_endian 8 (value_of (take 8 (drop entry_length_start s)))) path time size
  where
    end : take 8 (drop entry_time_start s) ++ (take 8 (drop entry_length_start s) ++ take 32 (drop entry_digest_start s)) ≡ drop entry_time_start s
    end =
        let all : take 32 (drop entry_digest_start s) ≡ drop entry_digest_start s = take_all 32 (drop entry_digest_start s) (rw length-drop (omega arith)) in
        rw (all, ← (drop-drop 8 entry_time_start s), ← (drop-drop 16 entry_time_start s)) (three (drop entry_time_start s) 8 8)

    whole : (p a b : List ℕ) → p ≡ take path_size (drop 64 s) → a ≡ take 8 (drop entry_time_start s) → b ≡ take 8 (drop entry_length_start s)
        → (take 32 s ++ take 32 (drop 32 s)) ++ (p ++ (a ++ (b ++ take 32 (drop entry_digest_start s)))) ≡ s
    whole p a b ep ea eb = rw (ep, ea, eb, end, ← (take-add 32 32 s)) (three s 64 path_size)

-- an entry by its fields and the record of its path
pub entry_lent : (s p : List ℕ) → (p ≡ take path_size (drop 64 s)) × (length p ≡ path_size) → entry_with (fields_of (entry_in s)) (path_in p) ≡ entry_in s
unfolding entry_in
entry_lent s p e = ap (entry_with (fields_of (entry_in s))) (path_within_lem p (drop 64 s) e)
