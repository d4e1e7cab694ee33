-- Every file that bsp_made_up wrote loads and is accepted (specs/MadeUp.antt says it), by `every_map` of made_loads/proofs/EveryMap.antt. Assumes nothing.
use Prim.Native.Nat.{ℕ, ◌≤◌}
use native.Mathlib.Omega.{arith}
use mathlib.Core.Bool.{Bool, true, false, cond}
use mathlib.Core.List.{List, ◌++◌}
use mathlib.Core.Path.{◌≡◌, refl, sym, ap, subst, ◌∙◌}
use borrow.Author.Tests.{le-ltb}
use lib.Dec.{ltb}
use lib.ListN.{length, drop}
use Rattle.format.specs.Answer.{Answer, answer, refused, mapped}
use Rattle.format.specs.Listed.{Listed, listed, into}
use Rattle.format.specs.declared.section.BspData.{BspData}
use Rattle.load.specs.Load.{load_of}
use Rattle.accept.specs.Accept.{Judged, accept}
use Rattle.made.specs.File.{made_map, file_of, is_node_count, made_up}
use Rattle.made_loads.specs.EveryMap.{Sound, accepted}
use Rattle.made_loads.proofs.EveryMap.{every_buffer}
use Rattle.words.specs.Words.{Written, given, left, listed_in, map_words, map_of}
use Rattle.ffi_load.specs.Calls.{bsp_load}
use Rattle.ffi_accept.specs.Calls.{judged_in, bsp_accept}
use Rattle.ffi_made.specs.Calls.{bsp_made_up}
use Rattle.served.specs.EveryCall.{map_written}
use Rattle.served.proofs.EveryCall.{load_passed}
use Rattle.served.proofs.Statuses.{long}
use Rattle.served_requests.specs.MadeUp.{file_in, Plays, EveryMadeUp}

-- ---- a file of which `every_map` speaks

module _ (seed n : ℕ) (S : Sound seed n) where
  loads : (lent : List ℕ) → 31 ≤ length lent → (bsp_load (file_of seed n) lent).status ≡ 0
  unfolding bsp_load
  loads lent room =
      ap (λ (w : Written). w.status) (long 31 lent lent (given (mapped map_words (load_of (file_of seed n))) lent) room)
      ∙ ap (λ (x : Answer BspData). (given (mapped map_words x) lent).status) S.loads

  passes : (lent marks : List ℕ) → 31 ≤ length lent → n ≤ length marks → (bsp_accept (file_of seed n) (map_written (file_of seed n) lent) marks).status ≡ 0
  unfolding bsp_accept
  passes lent marks room enough =
      let s = file_of seed n in
      let map = map_written s lent in
      let L = load_passed s lent (loads lent room) in
      let both : ◌≡◌ {A = Answer BspData} (answer (map_of map)) (answer (made_map n)) = sym L.loads ∙ S.loads in
      let same : map_of map ≡ made_map n = cc in
      ap (λ (w : Written). w.status) (long 31 map marks (judged_in (accept s (map_of map) marks)) L.room)
      ∙ ap (λ (m : BspData). (judged_in (accept s m marks)).status) same
      ∙ ap (λ (j : Judged). (judged_in j).status) (S.passes_note_4 marks)
      ∙ simp (le-ltb (length marks) n enough)

  plays : Plays n (file_of seed n)
  plays = record { loads = loads; accepted = passes }

-- ---- what the call left

module _ (seed nodes : ℕ) (buffer out : List ℕ) where
  -- no refusal of it is 0
  never_0 : (r : ℕ) (l : List ℕ) → listed (refused r) l ≡ into (made_up seed nodes) buffer → r ≡ 0 → ⊥
  unfolding made_up
  never_0 r l q e = of (is_node_count nodes) q
    where
      refusal : Listed → Answer ℕ
      refusal x = x.answered

      room : (v : Bool) → listed (refused r) l ≡ cond v (listed (refused 22) buffer) (listed (answer (length (file_of seed nodes))) (file_of seed nodes ++ drop (length (file_of seed nodes)) buffer)) → ⊥
      room true q = let z : ◌≡◌ {A = Answer ℕ} (refused r) (refused 22) = ap refusal q in let y : r ≡ 22 = cc in omega (arith, e, y)
      room false q = let z : ◌≡◌ {A = Answer ℕ} (refused r) (answer (length (file_of seed nodes))) = ap refusal q in let y : ◌≡◌ {A = ℕ} 0 1 = cc in omega arith

      of : (t : Bool) → listed (refused r) l ≡ into (cond t (answer (file_of seed nodes)) (refused 29)) buffer → ⊥
      of false q = let z : ◌≡◌ {A = Answer ℕ} (refused r) (refused 29) = ap refusal q in let y : r ≡ 29 = cc in omega (arith, e, y)
      of true q = room (ltb (length buffer) (length (file_of seed nodes))) q

  of_listed : (a : Answer ℕ) (l : List ℕ) → listed a l ≡ into (made_up seed nodes) buffer → (listed_in (listed a l) out).status ≡ 0 → Plays nodes (file_in (listed_in (listed a l) out))
  of_listed (answer k) l q e = let B = every_buffer seed nodes k buffer l q in subst (Plays nodes) (sym B.0) (plays seed nodes B.1)
  of_listed (refused r) l q e = absurd (never_0 r l q e)

  left_by : (t u : Bool) → (cond t (cond u (left 22 buffer out) (listed_in (into (made_up seed nodes) buffer) out)) (left 29 buffer out)).status ≡ 0
      → Plays nodes (file_in (cond t (cond u (left 22 buffer out) (listed_in (into (made_up seed nodes) buffer) out)) (left 29 buffer out)))
  left_by false u e = absurd (omega (arith, e))
  left_by true true e = absurd (omega (arith, e))
  left_by true false e = of_listed (into (made_up seed nodes) buffer).answered (into (made_up seed nodes) buffer).list refl e

pub every_made_up : EveryMadeUp
unfolding bsp_made_up
every_made_up seed nodes buffer out e = left_by seed nodes buffer out (is_node_count nodes) (ltb (length out) 1) e
