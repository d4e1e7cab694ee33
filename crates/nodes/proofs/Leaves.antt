-- A leaf's contents as its bytes: what the reader at a position makes of them.
-- Assumes nothing.
use Rattle.std.specs.Prelude.{Option, Some, None}
use Rattle.std.proofs.Common.{◌≡◌, ℕ, suc, ◌+◌, ◌-◌, ◌<◌, ◌≤◌, List, length, pos, negsuc, arith, w32, to_z, le-ltb, lt-ltb}
use Rattle.format.specs.Answer as Ans
use Rattle.format.specs.Answer.{answer, mapped}
use Rattle.format.specs.Step.{ok, refused}
use Rattle.format.specs.Code.{contents_of, negated_contents}
use Rattle.format.proofs.Codes.{above}
use Rattle.format.specs.declared.contents.BspLeafContents.{BspLeafContents}
use Rattle.records.specs.Number.{offset_of, offset_at}
use Rattle.records.specs.Access.{reading}
use Rattle.records.specs.Leaf.{contents_at, leaf_end_at, leaf_at}
use Rattle.nodes.specs.Tables.{leaf_contents}
use Rattle.nodes.specs.Fast.{u32, leaf_contents_here}
use Rattle.nodes.proofs.Numbers.{low, high, high_code, i32_is, u16_is}
use Rattle.nodes.proofs.Renders.{point}

-- the fields that are not tested
module _ (c : BspLeafContents) (o : Option ℕ) (s : List ℕ) (at : ℕ) (h : at + 16 ≤ length s) where
  first_place : at + 6 + 6 ≡ at + 12
  first_place = omega arith

  pub rest_is : mapped leaf_contents (reading (leaf_end_at c o s at)) ≡ answer c
  unfolding leaf_end_at
  rest_is = rw ((point s at (omega arith)).1, (point s (at + 6) (omega arith)).1, first_place, u16_is s (at + 12) (omega arith), u16_is s (at + 12 + 2) (omega arith))

-- the visibility offset v
module _ (s : List ℕ) (at v : ℕ) (h : at + 4 ≤ length s) (e : v ≡ u32 s at) where
  pub none_is : 4294967295 ≤ v → v < 4294967296 → offset_at s at ≡ ok (offset_of (negsuc 0)) (at + 4)
  unfolding offset_at
  none_is l m =
      let z : 4294967296 - suc v ≡ 0 = omega arith in
      rw (i32_is s at h, ← e) (rw (high w32 v (omega arith)) (rw z))

  pub some_is : v < 2147483648 → offset_at s at ≡ ok (offset_of (pos v)) (at + 4)
  unfolding offset_at
  some_is l = rw (i32_is s at h, ← e) (rw (low w32 v l))

  pub bad_offset : 2147483648 ≤ v → v < 4294967295 → offset_at s at ≡ refused 10
  unfolding offset_at
  bad_offset l m = rw (i32_is s at h, ← e) (rw (high w32 v l) (simp (lt-ltb 0 (4294967296 - suc v) (omega arith))))

module _ (s : List ℕ) (at code v : ℕ) (h : at + 28 ≤ length s) (is_code : code ≡ u32 s at) where
  pub low_code : code < 2147483648 → Ans.refused 23 ≡ leaf_contents_here s at
  unfolding leaf_contents_here leaf_at contents_at
  low_code l =
      rw (i32_is s at (omega arith), ← is_code) (rw (low w32 code l) (rw (above w32 (omega arith) (pos code) (record { sfits = l }) (le-ltb code 0 (omega arith)))))

  module _ (l : 2147483648 ≤ code) (fits : code < 4294967296) (m : ℕ) (is_m : m ≡ 4294967295 - code + 1) where
    code_is : negated_contents w32 (to_z w32 code) ≡ contents_of m
    code_is = high_code w32 (omega arith) code m l (omega arith) (omega arith)

    pub bad_code : contents_of m ≡ None → Ans.refused 23 ≡ leaf_contents_here s at
    unfolding leaf_contents_here leaf_at contents_at
    bad_code q = rw (i32_is s at (omega arith), ← is_code, code_is, q)

    module _ (c : BspLeafContents) (q : contents_of m ≡ Some c) (is-v : v ≡ u32 s (at + 4)) where
      box_place : at + 4 + 4 ≡ at + 8
      box_place = omega arith

      pub bad_vis : 2147483648 ≤ v → v < 4294967295 → Ans.refused 23 ≡ leaf_contents_here s at
      unfolding leaf_contents_here leaf_at contents_at
      bad_vis a b = rw (i32_is s at (omega arith), ← is_code, code_is, q, bad_offset s (at + 4) v (omega arith) is-v a b)

      pub no_vis : 4294967295 ≤ v → v < 4294967296 → answer c ≡ leaf_contents_here s at
      unfolding leaf_contents_here leaf_at contents_at
      no_vis a b = rw (i32_is s at (omega arith), ← is_code, code_is, q, none_is s (at + 4) v (omega arith) is-v a b, box_place, rest_is c (offset_of (negsuc 0)) s (at + 8) (omega arith))

      pub vis : v < 2147483648 → answer c ≡ leaf_contents_here s at
      unfolding leaf_contents_here leaf_at contents_at
      vis a = rw (i32_is s at (omega arith), ← is_code, code_is, q, some_is s (at + 4) v (omega arith) is-v a, box_place, rest_is c (offset_of (pos v)) s (at + 8) (omega arith))
