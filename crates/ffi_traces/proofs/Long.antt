-- How many words a trace has; and what is said at once, where something is.
-- Assumes nothing.
use mathlib.Core.Bool.{Bool, true, false, cond}
use mathlib.Core.Path.{◌≡◌, refl}
use native.Mathlib.Omega.{arith}
use Prim.Native.Nat.{ℕ, ◌≤◌}
use lib.ListN.{length}
use Rattle.std.specs.Prelude.{Some, None}
use Rattle.phys.specs.declared.Trace.{Trace}
use Rattle.ffi_traces.specs.Layout.{trace_words, kind_words}
use Rattle.phys.specs.declared.TraceEndKind.{TraceEndKind}
use Rattle.phys.specs.declared.TraceEndKind.TheVariants.{Terminal, Boundary}

seven : (k : TraceEndKind) → length (kind_words k) ≡ 7
seven Terminal = refl
seven (Boundary b) = refl

pub long : (a : Trace × ℕ) (n : ℕ) → 17 ≤ n → length (trace_words a) ≤ n
long a n h = let e = seven a.0.end.kind in omega arith

pub was_said : {A : Type 0} (b : Bool) (x y : A) → Some x ≡ cond b (Some y) None → x ≡ y
was_said true x y e = cc
was_said false x y e = let z : ◌≡◌ {A = ℕ} 0 1 = cc in absurd (omega arith)
