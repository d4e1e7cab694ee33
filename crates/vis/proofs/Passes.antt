-- The two passes over a row: what holds while its leaves are counted, and while they are written. Assumes nothing.
use borrow.Author.Tests.{leb-true, leb-false}
use mathlib.Core.Path.{◌≡◌, refl, sym, ap, ◌∙◌}
use mathlib.Core.Bool.{Bool, true, false}
use mathlib.Core.List.{List, ◌++◌, append-nil}
use Prim.Native.Nat.{ℕ, ◌+◌, ◌*◌, ◌^◌, ◌<◌, ◌≤◌}
use native.Mathlib.Nat.{add-zero, mod-le}
use native.Mathlib.Omega.{arith}
use lib.Count.{ones, ones-le}
use lib.Dec.{leb}
use lib.ListN.{length, take, drop, get_or, length-append}
use lib.Seq.{length-take-le, take_all}
use Rattle.format.specs.Answer.{Answer, answer, refused, mapped}
use Rattle.vis.specs.Row.{before, in_byte, row_from, byte_leaves}
use Rattle.vis.proofs.SetBits.{length_visible, ones_in_lem}
use Rattle.vis.proofs.Rows.{kept_bits, before_before, done, ended, cut, skipped, byte}

-- so many more
abbrev pub plus : ℕ → Answer ℕ → Answer ℕ
plus n (answer m) = answer (n + m)
plus n (refused k) = refused k

plus_length : (n : ℕ) (xs : List ℕ) (a : Answer (List ℕ)) → plus (n + length xs) (mapped length a) ≡ plus n (mapped length (before xs a))
plus_length n xs (answer ys) = ap answer (rw length-append (omega arith))
plus_length n xs (refused k) = refl

-- the numbers of a list that has so many entries
within : (xs : List ℕ) (a : Answer (List ℕ)) (n : ℕ) → mapped length (before xs a) ≡ answer n → length xs ≤ n
within xs (answer ys) n e = let k : length (xs ++ ys) ≡ n = cc in omega (arith, length-append xs ys)
within xs (refused k) n e = let z : ◌≡◌ {A = ℕ} 0 1 = cc in absurd (omega arith)

pub kept_small : (leaves leaf b : ℕ) → b < 256 → kept_bits leaves leaf b < 256
kept_small leaves leaf b h = omega (arith, mod-le b (2 ^ in_byte leaves leaf))

module _ (s : List ℕ) (offset leaves : ℕ) where
  -- the row that is read
  abbrev pub row : Answer (List ℕ)
  row = row_from leaves 1 (drop offset s)

  -- the position `at` is that of the number `leaf`, and `count` leaves are counted
  pub record Counting (at leaf count : ℕ) : Type 0 where
    pub inside : at ≤ length s
    pub small : leaf ≤ 1 + 1020 * at
    pub few : count ≤ 8 * at
    pub total : plus count (mapped length (row_from leaves leaf (drop at s))) ≡ mapped length row

  module _ (at leaf count : ℕ) (p : Counting at leaf count) where
    pub count_done : leaves ≤ leaf → answer count ≡ mapped length row
    count_done h = ap answer (sym (add-zero count)) ∙ (rw (done leaves leaf (drop at s) h) at p.total)

    module _ (h : leaf < leaves) where
      pub count_ended : length s ≤ at → refused 33 ≡ mapped length row
      count_ended k = rw (ended leaves leaf s at h k) at p.total

      pub count_cut : at < length s → get_or s at 0 ≡ 0 → length s ≤ at + 1 → refused 33 ≡ mapped length row
      count_cut k z e = rw (cut leaves leaf s at h k z e) at p.total

      pub count_zeros : at + 1 < length s → get_or s at 0 ≡ 0 → get_or s (at + 1) 0 < 256 → Counting (at + 1 + 1) (leaf + 8 * get_or s (at + 1) 0) count
      count_zeros k z b = record {
        inside = omega arith;
        small = omega (arith, p.small);
        few = omega (arith, p.few);
        total = rw (skipped leaves leaf s at h k z) at p.total;
      }

      pub count_byte : at < length s → (get_or s at 0 ≡ 0 → ⊥) → get_or s at 0 < 256 → (kept n : ℕ) → kept ≡ kept_bits leaves leaf (get_or s at 0) → n ≡ ones kept
          → Counting (at + 1) (leaf + 8) (count + n)
      count_byte k z b kept n x y =
          let k8 = kept_bits leaves leaf (get_or s at 0) in
          let u : k8 < 256 = kept_small leaves leaf (get_or s at 0) b in
          let v = byte_leaves leaf k8 in
          let o : n ≡ ones k8 = y ∙ ap ones x in
          let e : n ≡ length v = o ∙ sym (length_visible 8 leaf k8 ∙ ones_in_lem 8 k8 u) in
          record {
            inside = omega arith;
            small = omega (arith, p.small);
            few = omega (arith, p.few, o, ones-le 8 k8 u);
            total = rw e (plus_length count v (row_from leaves (leaf + 8) (drop (at + 1) s)) ∙ (rw (byte leaves leaf s at h k z) at p.total));
          }

  -- The position `at` is that of the number `leaf`, and `count` leaves are written; the list has as many entries as the row has leaves.
  pub record Writing (at leaf count : ℕ) (list : List ℕ) : Type 0 where
    pub inside : at ≤ length s
    pub small : leaf ≤ 1 + 1020 * at
    pub held : count ≤ length list
    pub front : before (take count list) (row_from leaves leaf (drop at s)) ≡ row
    pub fits : mapped length row ≡ answer (length list)

  module _ (at leaf count : ℕ) (list : List ℕ) (p : Writing at leaf count list) where
    -- the list is full where the count is reached
    pub write_done : leaves ≤ leaf → answer list ≡ row
    write_done h =
        let e : answer (take count list) ≡ row = simp (done leaves leaf (drop at s) h, append-nil) at p.front in
        let l : ◌≡◌ {A = Answer ℕ} (answer (length (take count list))) (answer (length list)) = ap (mapped length) e ∙ p.fits in
        let m : length (take count list) ≡ length list = cc in
        let k : length list ≤ count = omega (arith, length-take-le count list p.held) in
        rw take_all at e

    module _ (h : leaf < leaves) where
      answered : row_from leaves leaf (drop at s) ≡ refused 33 → ⊥
      answered e =
          let q : refused 33 ≡ row = rw e at p.front in
          let m : ◌≡◌ {A = Answer ℕ} (refused 33) (answer (length list)) = ap (mapped length) q ∙ p.fits in
          let z : ◌≡◌ {A = ℕ} 0 1 = cc in
          omega arith

      -- a byte is there, and a zero byte's follower
      pub some_byte : at < length s
      some_byte = go (leb (length s) at) refl
        where
          go : (t : Bool) → leb (length s) at ≡ t → at < length s
          go true e = absurd (answered (ended leaves leaf s at h (leb-true _ _ e)))
          go false e = leb-false _ _ e

      pub some_follower : get_or s at 0 ≡ 0 → at + 1 < length s
      some_follower z = go (leb (length s) (at + 1)) refl
        where
          go : (t : Bool) → leb (length s) (at + 1) ≡ t → at + 1 < length s
          go true e = absurd (answered (cut leaves leaf s at h some_byte z (leb-true _ _ e)))
          go false e = leb-false _ _ e

      pub write_zeros : get_or s at 0 ≡ 0 → get_or s (at + 1) 0 < 256 → Writing (at + 1 + 1) (leaf + 8 * get_or s (at + 1) 0) count list
      write_zeros z b =
          let k : at + 1 < length s = some_follower z in
          record {
            inside = omega arith;
            small = omega (arith, p.small);
            held = p.held;
            front = rw (skipped leaves leaf s at h k z) at p.front;
            fits = p.fits;
          }

      module _ (z : get_or s at 0 ≡ 0 → ⊥) where
        abbrev these : List ℕ
        these = byte_leaves leaf (kept_bits leaves leaf (get_or s at 0))

        more_front : before (take count list ++ these) (row_from leaves (leaf + 8) (drop (at + 1) s)) ≡ row
        more_front = before_before (take count list) these (row_from leaves (leaf + 8) (drop (at + 1) s)) ∙ (rw (byte leaves leaf s at h some_byte z) at p.front)

        -- the byte's leaves have room past those written
        room_these : count + length these ≤ length list
        room_these =
            let w : length (take count list ++ these) ≤ length list = within (take count list ++ these) (row_from leaves (leaf + 8) (drop (at + 1) s)) (length list) (ap (mapped length) more_front ∙ p.fits) in
            omega (arith, length-append (take count list) these, length-take-le count list p.held)

        pub room_past : (kept : ℕ) → kept ≡ kept_bits leaves leaf (get_or s at 0) → count + length (byte_leaves leaf kept) ≤ length list
        room_past kept x = rw x room_these

        pub write_byte : (next : List ℕ) (r : ℕ) (kept : ℕ) → kept ≡ kept_bits leaves leaf (get_or s at 0) → length next ≡ length list → r ≡ count + length (byte_leaves leaf kept)
            → take r next ≡ take count list ++ byte_leaves leaf kept → Writing (at + 1) (leaf + 8) r next
        write_byte next r kept x l e' t' =
            let e : r ≡ count + length these = rw x at e' in
            let t : take r next ≡ take count list ++ these = rw x at t' in
            let k : at < length s = some_byte in
            record {
              inside = omega arith;
              small = omega (arith, p.small);
              held = omega (arith, room_these);
              front = rw t more_front;
              fits = p.fits ∙ ap answer (sym l);
            }
