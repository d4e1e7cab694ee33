-- Demand 3 for the tables of a file (specs/Demand3.antt says it), by one argument over the tables: render nodes, clip nodes and a box alike.
-- Assumes nothing.
use Prim.Native.Nat.{ℕ, ◌≤◌}
use mathlib.Core.Path.{◌≡◌, refl, sym, ap, subst, ◌∙◌}
use mathlib.Core.List.{List}
use native.Mathlib.Omega.{arith}
use Rattle.format.specs.Answer.{answer}
use Rattle.format.specs.declared.contents.BspLeafContents.{BspLeafContents}
use Rattle.format.specs.declared.section.BspData.{BspData}
use Rattle.math.specs.declared.vector.Vector3.{Vector3}
use Rattle.math.proofs.Fits.{Fits3}
use Rattle.walk.specs.Table.{Nodes, Table}
use Rattle.walk.specs.Walk.{point_walk}
use Rattle.walk.specs.Tracing as Tracing
use Rattle.walk.specs.TreeCheck.{tree_check}
use Rattle.walk.specs.Tree.{Reads, Valid, at_root}
use Rattle.walk.specs.Demand3.{Answered, AnsweredWithin}
use Rattle.walk.proofs.Check.{passes_only}
use Rattle.walk.proofs.Answered.{walk_answered, trace_answered}
use Rattle.nodes.specs.Tables.{End, contents, leaf, nothing, nodes_of, table_of, leaf_table}
use Rattle.nodes.specs.declared.table.HullTable.{HullTable}
use Rattle.nodes.specs.declared.table.HullTable.TheVariants.{Render, Clip, Box}
use Rattle.tree.specs.Readable.{Readable, Floats}
use Rattle.tree.proofs.Laws.{nodes_of_lem}
use Rattle.tree.proofs.Reading.{planes_fit, few_nodes}
use Rattle.tree.proofs.Readable.{reads}
use Rattle.loaded.specs.Demand3.{Passed, Demand3}
use Rattle.loaded.proofs.LeafWalk.{numbered, total, leaf_walk}

abbrev three : {p : Vector3} → Floats p → Fits3 p
three f = record { x_fits = f.x_float; y_fits = f.y_float; z_fits = f.z_float }

module _ (s : List ℕ) (m : BspData) (R : Readable s m) where
  leaves_read : Reads (total s m)
  leaves_read = record { planes_read = R.planes; leaves_read = λ e i h. number e }
    where
      number : (e : End) → (n : ℕ) × (numbered e ≡ answer n)
      number (contents c) = (0, refl)
      number (leaf n) = (n, refl)
      number nothing = (0, refl)

  -- ---- demand 3

  module _ (table : HullTable) (root h : ℕ) (P : Passed s m table root h) where
    few : (nodes_of s m table).count ≤ 32767
    few =
        let v : Valid (nodes_of s m table) root = (passes_only (nodes_of s m table) P.marks root h P.passed).0.valid root (at_root refl) in
        few_nodes s m table root v.record_of v.read_as

    module _ (mins maxs : Vector3) where
      abbrev T : Table End BspLeafContents
      T = table_of s m table mins maxs

      same : T.nodes ≡ nodes_of s m table
      same = nodes_of_lem s m table mins maxs

      passed : (tree_check T.nodes P.marks root).answer ≡ answer h
      passed = ap (λ (N : Nodes End). (tree_check N P.marks root).answer) same ∙ P.passed

      contents_answered : (p : Vector3) → AnsweredWithin (nodes_of s m table) root h (point_walk T root p)
      contents_answered p =
          subst (λ (N : Nodes End). AnsweredWithin N root h (point_walk T root p)) same
          (walk_answered T (reads s m R table mins maxs) P.marks root h passed p)

      trace_is_answered : (start end : Vector3) → Floats mins → Floats maxs → Floats start → Floats end
          → Answered (nodes_of s m table) root (Tracing.trace T root start end)
      trace_is_answered start end F G A B =
          let k : T.nodes.count ≡ (nodes_of s m table).count = ap (λ (N : Nodes End). N.count) same in
          subst (λ (N : Nodes End). Answered N root (Tracing.trace T root start end)) same
          (trace_answered T (reads s m R table mins maxs) (planes_fit s m table mins maxs F G) P.marks root h passed (omega (arith, few)) start end (three A) (three B))

  leaf_answered : (table : HullTable) (root h : ℕ) → Passed s m table root h → table ≡ Render → (p : Vector3)
      → AnsweredWithin (nodes_of s m table) root h (point_walk (leaf_table s m) root p)
  leaf_answered Render root h P e p =
      subst (AnsweredWithin (nodes_of s m Render) root h) (sym (leaf_walk s m p root)) (walk_answered (total s m) leaves_read P.marks root h P.passed p)
  leaf_answered Clip root h P e p = let z : ◌≡◌ {A = ℕ} 0 1 = cc in absurd (omega arith)
  leaf_answered Box root h P e p = let z : ◌≡◌ {A = ℕ} 0 1 = cc in absurd (omega arith)

  pub demand3 : (table : HullTable) (root h : ℕ) → Passed s m table root h → Demand3 s m table root h
  demand3 table root h P = record {
    height = (passes_only (nodes_of s m table) P.marks root h P.passed).1;
    contents = contents_answered table root h P;
    leaf = leaf_answered table root h P;
    trace = trace_is_answered table root h P;
  }
