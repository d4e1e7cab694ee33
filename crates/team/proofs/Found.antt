-- Where the players' rows start: the starts one after another, and the players' lists as the rows at them. Assumes nothing.
use Rattle.std.specs.Prelude.{Option, Some, None}
use borrow.Author.Tests.{lt-ltb, le-ltb, ltb-false}
use mathlib.Core.Path.{◌≡◌, refl, sym, ap, ◌∙◌}
use mathlib.Core.Bool.{Bool, true, false, cond}
use mathlib.Core.List.{List, [], ◌∷◌, ◌++◌, append_assoc, append-nil}
use Prim.Native.Nat.{ℕ, zero, suc, ◌+◌, ◌-◌, ◌<◌, ◌≤◌}
use native.Mathlib.Numerals.{add-one}
use native.Mathlib.Omega.{arith}
use lib.Dec.{eqb, ltb}
use lib.ListN.{length, drop, take, get_or, set, replicate, length-replicate, get_or-replicate, drop_of_length-le}
use lib.Seq.{drop-cons, take-suc-set, take-append_seam, get_or-take, length-take-le}
use Rattle.format.proofs.Listing.{into_short, into_list}
use Rattle.format.specs.Answer.{Answer, answer, refused, mapped, then_answer}
use Rattle.format.specs.Listed.{listed, into}
use Rattle.format.specs.declared.section.BspData.{BspData}
use Rattle.format.specs.declared.section.BspFileSection.{BspFileSection}
use Rattle.records.specs.Leaf.{leaf_of}
use Rattle.records.specs.declared.leaf.BspLeaf.{BspLeaf}
use Rattle.vis.specs.Row.{row_from, row_at}
use Rattle.vis.specs.Pvs.{visibility_of, section_row, row_of, pvs_of}
use Rattle.team.specs.Team.{holds, seen, pooled, lists_of, team_of}
use Rattle.team.specs.Starts.{whether, or_none, data_of, offset_in, offset_of_leaf, start_of, starts_of}
use Rattle.team.specs.SideBySide.{rest_of, rests_of, rows_at, Whole, Cursors, Starts}
use Rattle.team.proofs.Unions.{holds_none}
use Rattle.team.proofs.Pools.{pooled_same, pooled_none}
use Rattle.team.proofs.Pooled.{first_list}

-- ---- the leaves one after another

module _ (file : List ℕ) (map : BspData) (leaves starts₀ : List ℕ) where
  -- i leaves have given their starts
  pub record Finding (starts : List ℕ) (rows i : ℕ) : Type 0 where
    pub few : rows ≤ i
    pub front : take rows starts ++ starts_of file map (drop i leaves) ≡ starts_of file map leaves

  pub find_starts : Finding starts₀ 0 0
  find_starts = record { few = omega arith; front = refl }

  no_starts : starts_of file map [] ≡ []
  unfolding starts_of
  no_starts = refl

  next_starts : (leaf : ℕ) (more : List ℕ) → starts_of file map (leaf ∷ more) ≡ start_of file map leaf ++ starts_of file map more
  unfolding starts_of
  next_starts leaf more = refl

  module _ (starts : List ℕ) (rows i : ℕ) (p : Finding starts rows i) where
    pub find_ends : i ≤ length leaves → length leaves ≤ i → (rows ≤ length leaves) × (take rows starts ≡ starts_of file map leaves)
    find_ends k h = (
      omega (arith, p.few),
      sym (append-nil (take rows starts)) ∙ ap (λ (l : List ℕ). take rows starts ++ l) (sym (ap (starts_of file map) (drop_of_length-le leaves h) ∙ no_starts)) ∙ p.front,
    )

    module _ (h : i < length leaves) where
      -- the start of one more leaf, if it has one, behind those that are there
      more : (o : Option ℕ) → offset_in o ≡ start_of file map (get_or leaves i 0)
          → (take rows starts ++ offset_in o) ++ starts_of file map (drop (i + 1) leaves) ≡ starts_of file map leaves
      more o e =
          rw add-one
          (append_assoc (take rows starts) (offset_in o) (starts_of file map (drop (suc i) leaves))
          ∙ ap (λ (l : List ℕ). take rows starts ++ (l ++ starts_of file map (drop (suc i) leaves))) e
          ∙ ap (λ (l : List ℕ). take rows starts ++ l) (sym (ap (starts_of file map) (drop-cons leaves i 0 h) ∙ next_starts (get_or leaves i 0) (drop (suc i) leaves)))
          ∙ p.front)

      pub find_none : offset_in None ≡ start_of file map (get_or leaves i 0) → Finding starts rows (i + 1)
      find_none e = record {
        few = omega (arith, p.few);
        front = ap (λ (l : List ℕ). l ++ starts_of file map (drop (i + 1) leaves)) (sym (append-nil (take rows starts))) ∙ more None e;
      }

      pub find_some : (at : ℕ) → rows < length starts → offset_in (Some at) ≡ start_of file map (get_or leaves i 0) → Finding (set starts rows at) (rows + 1) (i + 1)
      find_some at k e = record {
        few = omega (arith, p.few);
        front = ap (λ (l : List ℕ). l ++ starts_of file map (drop (i + 1) leaves)) (rw add-one (take-suc-set starts rows at k)) ∙ more (Some at) e;
      }

-- ---- the players' lists are the rows at their starts

module _ (file : List ℕ) (map : BspData) (count : ℕ) where
  abbrev pub bytes : List ℕ
  bytes = data_of file map.visibility

  -- a player has no row and an empty list, or the row of the list
  data RowAt (starts l : List ℕ) : Type 0 where
    none : starts ≡ [] → l ≡ [] → RowAt starts l
    some : (o : ℕ) → starts ≡ o ∷ [] → visibility_of file map.visibility ≡ answer bytes → o ≤ length bytes → answer l ≡ row_from count 1 (drop o bytes) → RowAt starts l

  player_row : (leaf : ℕ) (l : List ℕ) → answer l ≡ pvs_of file map leaf count → RowAt (start_of file map leaf) l
  unfolding pvs_of start_of section_row row_at
  player_row leaf l = go (eqb leaf 0) (leaf_of file map leaf)
    where
      at_offset : (o : ℕ) (v : List ℕ) → visibility_of file map.visibility ≡ answer v → (t : Bool) → ltb (length v) o ≡ t
          → answer l ≡ cond t (refused 33) (row_from count 1 (drop o v)) → RowAt (o ∷ []) l
      at_offset o v q true h e = let z : ◌≡◌ {A = ℕ} 0 1 = cc in absurd (omega arith)
      at_offset o v q false h e =
          let d : bytes ≡ v = ap or_none q in
          let k : o ≤ length v = ltb-false (length v) o h in
          some o refl (q ∙ ap answer (sym d)) (rw d k) (e ∙ ap (λ (x : List ℕ). row_from count 1 (drop o x)) (sym d))

      in_section : (o : ℕ) (a : Answer (List ℕ)) → visibility_of file map.visibility ≡ a → answer l ≡ then_answer a (λ visibility. row_at visibility o count) → RowAt (o ∷ []) l
      in_section o (answer v) q e = at_offset o v q (ltb (length v) o) refl e
      in_section o (refused n) q e = let z : ◌≡◌ {A = ℕ} 0 1 = cc in absurd (omega arith)

      row : (o : Option ℕ) → answer l ≡ row_of file map count o → RowAt (offset_in o) l
      row None e = let z : l ≡ [] = cc in none refl z
      row (Some o) e = in_section o (visibility_of file map.visibility) refl e

      go : (t : Bool) (a : Answer BspLeaf) → answer l ≡ cond t (answer []) (then_answer a (λ r. row_of file map count r.vis_offset)) → RowAt (cond t [] (offset_of_leaf a)) l
      go true a e = let z : l ≡ [] = cc in none refl z
      go false (answer r) e = row r.vis_offset e
      go false (refused n) e = let z : ◌≡◌ {A = ℕ} 0 1 = cc in absurd (omega arith)

  -- what holds of the rows of the players so far
  pub record Rows (starts : List ℕ) (lists : List (List ℕ)) : Type 0 where
    pub same : (k : ℕ) → seen k lists ≡ seen k (rows_at bytes count starts)
    pub whole : Starts bytes count starts
    pub lies : 0 < length starts → visibility_of file map.visibility ≡ answer bytes

  no_rows : Rows [] []
  unfolding rows_at seen
  no_rows = record { same = λ k. refl; whole = λ i h. absurd (omega arith); lies = λ h. absurd (omega arith) }

  not_refused : (l : List ℕ) (a : Answer (List ℕ)) → answer l ≡ a → a ≡ refused 33 → ⊥
  not_refused l a e q = let w : ◌≡◌ {A = Answer (List ℕ)} (answer l) (refused 33) = e ∙ q in let z : ◌≡◌ {A = ℕ} 0 1 = cc in omega arith

  more_rows : (starts one : List ℕ) (l : List ℕ) (lists : List (List ℕ)) → RowAt one l → Rows starts lists → Rows (one ++ starts) (l ∷ lists)
  unfolding seen rows_at
  more_rows starts one l lists (none o e) r = rw (o, e) (record { same = λ k. rw (holds_none k) (r.same k); whole = r.whole; lies = r.lies })
  more_rows starts one l lists (some o q v h e) r =
      let x : rest_of bytes count o 0 ≡ l = ap or_none (sym e) in
      rw q (record {
        same = λ k. rw x (ap (λ (t : Bool). cond (holds k l) true t) (r.same k));
        whole = first;
        lies = λ p. v;
      })
    where
      first : (i : ℕ) → i < suc (length starts) → Whole bytes count 0 (get_or (o ∷ starts) i 0) 0
      first zero p = (h, omega arith, omega arith, not_refused l (row_from count 1 (drop o bytes)) e)
      first (suc i) p = r.whole i (omega arith)

  pub rows_of : (leaves : List ℕ) (lists : List (List ℕ)) → answer lists ≡ lists_of file map count leaves → Rows (starts_of file map leaves) lists
  unfolding lists_of starts_of
  rows_of [] lists e = let q : lists ≡ [] = cc in rw q no_rows
  rows_of (leaf ∷ leaves) lists e =
      let f = first_list file map count leaf leaves (pvs_of file map leaf count) (lists_of file map count leaves) lists e in
      rw f.4 (more_rows (starts_of file map leaves) (start_of file map leaf) f.0 f.1 (player_row leaf f.0 f.2) (rows_of leaves f.1 f.3))

  module _ (leaves : List ℕ) where
    pub too_many : 16 < length leaves → refused 25 ≡ team_of file map leaves count
    unfolding team_of
    too_many h = rw (lt-ltb 16 (length leaves) h)

    module _ (few : length leaves ≤ 16) where
      pub team_refused : (k : ℕ) → refused k ≡ whether (lists_of file map count leaves) → refused k ≡ team_of file map leaves count
      unfolding team_of
      team_refused k e = rw (le-ltb 16 (length leaves) few) (go (lists_of file map count leaves) e)
        where
          go : (a : Answer (List (List ℕ))) → refused k ≡ whether a → refused k ≡ mapped (λ (ls : List (List ℕ)). pooled ls 1 (count - 1)) a
          go (answer ls) e = let z : ◌≡◌ {A = ℕ} 0 1 = cc in absurd (omega arith)
          go (refused j) e = let z : k ≡ j = cc in rw z

      module _ (e : answer tt ≡ whether (lists_of file map count leaves)) where
        all_lists : (lists : List (List ℕ)) × (answer lists ≡ lists_of file map count leaves)
        all_lists = go (lists_of file map count leaves) e
          where
            go : (a : Answer (List (List ℕ))) → answer tt ≡ whether a → (lists : List (List ℕ)) × (answer lists ≡ a)
            go (answer ls) e = (ls, refl)
            go (refused j) e = let z : ◌≡◌ {A = ℕ} 0 1 = cc in absurd (omega arith)

        pub team_whole : Starts bytes count (starts_of file map leaves)
        team_whole = let a = all_lists in (rows_of leaves a.0 a.1).whole

        pub team_lies : 0 < length (starts_of file map leaves) → visibility_of file map.visibility ≡ answer bytes
        team_lies = let a = all_lists in (rows_of leaves a.0 a.1).lies

        pub team_rows : answer (pooled (rows_at bytes count (starts_of file map leaves)) 1 (count - 1)) ≡ team_of file map leaves count
        unfolding team_of
        team_rows =
            let a = all_lists in
            let r = rows_of leaves a.0 a.1 in
            rw (le-ltb 16 (length leaves) few, ← a.1) (ap answer (sym (pooled_same a.0 (rows_at bytes count (starts_of file map leaves)) 1 (count - 1) (λ k h. r.same k))))

        none_seen : (starts : List ℕ) → starts ≡ [] → (k : ℕ) → seen k (rows_at bytes count starts) ≡ false
        unfolding seen rows_at
        none_seen starts e k = rw e

        pub team_none : starts_of file map leaves ≡ [] → answer [] ≡ team_of file map leaves count
        team_none s = ap answer (sym (pooled_none (rows_at bytes count (starts_of file map leaves)) 1 (count - 1) (λ k h. none_seen (starts_of file map leaves) s k))) ∙ team_rows

pub none_found : (rows : ℕ) (starts found : List ℕ) → rows ≡ 0 → take rows starts ≡ found → found ≡ []
none_found zero starts found z e = sym e
none_found (suc n) starts found z e = absurd (omega arith)

pub some_found : (rows n : ℕ) (starts found : List ℕ) → (rows ≡ 0 → ⊥) → length starts ≡ n → rows ≤ n → take rows starts ≡ found → 0 < length found
some_found rows n starts found z l h e = let k : rows ≤ length starts = omega arith in omega (arith, ap length e, length-take-le rows starts k)

pub few_found : (rows : ℕ) (starts : List ℕ) → length starts ≡ 16 → rows ≤ 16 → length (take rows starts) ≤ 16
few_found rows starts l h = let k : rows ≤ length starts = omega arith in omega (arith, length-take-le rows starts k)

-- ---- the visibility section, which lies in the file

module _ (file : List ℕ) (z : BspFileSection) where
  -- the bytes that were read are the data, and bytes were read
  pub data_read : (v : List ℕ) → answer v ≡ visibility_of file z → v ≡ data_of file z
  data_read v e = ap or_none e

-- ---- cursors at the starts: all groups are 0

-- sixteen zeros
abbrev none16 : List ℕ
none16 = replicate 16 0

zeros : (rows i : ℕ) → rows ≤ 16 → i < rows → get_or (take rows none16) i 0 ≡ 0
zeros rows i h l = get_or-take rows none16 i 0 l ∙ get_or-replicate 16 i 0 0 (omega arith)

rests_rows : (s : List ℕ) (count : ℕ) (ats groups : List ℕ) → length groups ≡ length ats → ((i : ℕ) → i < length ats → get_or groups i 0 ≡ 0)
    → rests_of s count ats groups ≡ rows_at s count ats
unfolding rests_of rows_at
rests_rows s count [] groups l z = refl
rests_rows s count (at ∷ ats) [] l z = absurd (omega arith)
rests_rows s count (at ∷ ats) (group ∷ groups) l z =
    rw (z 0 (omega arith)) (ap (λ (r : List (List ℕ)). rest_of s count at 0 ∷ r) (rests_rows s count ats groups (omega arith) (λ i h. z (suc i) (omega arith))))

-- the positions begin with the starts, and `rest` follows them
module _ (s : List ℕ) (count : ℕ) (starts front rest : List ℕ) (h : length starts ≤ 16) (q : front ≡ starts) where
  abbrev pub ats : List ℕ
  ats = take (length starts) (front ++ rest)

  abbrev pub zero_groups : List ℕ
  zero_groups = take (length starts) none16

  at_starts : ats ≡ starts
  at_starts = rw q (take-append_seam starts rest)

  as_many_starts : length ats ≡ length starts
  as_many_starts = ap length at_starts

  as_many_zeros : length zero_groups ≡ length starts
  as_many_zeros = length-take-le (length starts) none16 (omega (arith, length-replicate {A = ℕ} 16 0))

  pub as_many : length ats ≡ length zero_groups
  as_many = as_many_starts ∙ sym as_many_zeros

  pub some_rows : 0 < length starts → 0 < length ats
  some_rows p = omega (arith, as_many_starts)

  same_rests : rests_of s count ats zero_groups ≡ rows_at s count starts
  same_rests = rests_rows s count ats zero_groups (sym as_many) (λ i p. zeros (length starts) i h (omega (arith, as_many_starts))) ∙ ap (rows_at s count) at_starts

  same_start : (i : ℕ) → get_or ats i 0 ≡ get_or starts i 0
  same_start i = ap (λ (l : List ℕ). get_or l i 0) at_starts

  pub start_cursors : Starts s count starts → Cursors s count 0 ats zero_groups
  start_cursors w i p = let k : i < length starts = omega (arith, as_many_starts) in rw (same_start i, zeros (length starts) i h k) (w i k)

  -- the pool from the starts on, in a lent list
  abbrev pub team : List ℕ
  team = pooled (rows_at s count starts) 1 (count - 1)

  abbrev pub walked : List ℕ
  walked = pooled (rests_of s count ats zero_groups) 1 (count - 1)

  same_pool : walked ≡ team
  same_pool = ap (λ (r : List (List ℕ)). pooled r 1 (count - 1)) same_rests

  pub counted : (m : ℕ) → m ≡ length walked → m ≡ length team
  counted m e = e ∙ ap length same_pool

  module _ (lent : List ℕ) (m : ℕ) (e : m ≡ length team) where
    told : answer m ≡ mapped length (answer team)
    told = ap answer e

    pub pool_short : length lent < m → listed (refused 22) lent ≡ into (answer team) lent
    pool_short k = into_short lent (answer team) m told k

    module _ (k : m ≤ length lent) where
      pub pool_fits : length walked ≡ length (take m lent)
      pool_fits = ap length same_pool ∙ sym e ∙ sym (length-take-le m lent k)

      pub pool_listed : (xs : List ℕ) → xs ≡ walked → listed (answer m) (xs ++ drop m lent) ≡ into (answer team) lent
      pool_listed xs y = into_list lent (answer team) m xs (ap answer (y ∙ same_pool)) told k
