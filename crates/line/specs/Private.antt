-- For the contracts of functions that no other crate can name; a reader of the calls may leave this file out.
-- What the parts of the whole-line trace answer, in the terms of Line.antt.
use Rattle.std.specs.Prelude.{Result, Ok, Err, Option, Some, None, ℕ, suc, ◌/◌, ◌%◌, ◌<◌, ◌≤◌, ◌≡◌, cond, true, false, Bool, not, ◌&&◌, List, [], ◌∷◌, ltb, leb, eqb, Float}
use Rattle.std.specs.Float.Ieee as Ieee
use Rattle.math.specs.Vector as Vec
use Rattle.math.specs.Vector.{zero32, one32}
use Rattle.math.specs.Plane as Pl
use Rattle.math.specs.declared.plane.Hyperplane.{Hyperplane}
use Rattle.math.specs.declared.vector.Vector3.{Vector3}
use Rattle.format.specs.Refusal.{number_of}
use Rattle.format.specs.declared.refusal.Refusal.{Refusal}
use Rattle.format.specs.Answer as Ans
use Rattle.format.specs.Answer.{Answer, answer}
use Rattle.format.specs.Contents as Contents
use Rattle.format.specs.Contents.{code_of}
use Rattle.format.specs.declared.contents.BspLeafContents.{BspLeafContents}
use Rattle.format.specs.declared.contents.BspLeafContents.TheVariants.{Solid}
use Rattle.walk.specs.Walk.{Entered}
use Rattle.walk.specs.Table.{Child, child_on}
use Rattle.nodes.specs.Tables.{End}
use Rattle.nodes.specs.Walks.{made_from}
use Rattle.nodes.specs.Fast as Fast
use Rattle.nodes.specs.Fast.{word_on}
use Rattle.nodes.specs.declared.table.Tables.{Tables}
use Rattle.nodes.specs.declared.read.Words.{Words}
use Rattle.line.specs.Line.{line_trace, line_plane, Went, onward, stopped, refused, stretch, unset, line_from, across, into, into_leaf, contents_on, contents_from, contents_below, on_child, point_at, crossing, near_part, far_part, beyond, blocked, past}
use Rattle.line.specs.declared.tracing.Going.{Going}
use Rattle.line.specs.declared.tracing.Going.TheVariants as G
use Rattle.line.specs.declared.ground.Ground.{Ground}
use Rattle.line.specs.declared.state.Stretch.{Stretch}
use Rattle.line.specs.declared.state.LineTrace.{LineTrace}
use Rattle.line.specs.declared.tracing.Descent.{Descent}
use Rattle.line.specs.declared.tracing.Descent.TheVariants as D
use Rattle.line.specs.declared.tracing.Far.{Far}
use Rattle.line.specs.declared.tracing.Far.TheVariants as F
use Rattle.line.specs.declared.through.Mark.{Mark}
use Rattle.line.specs.declared.through.Reached.{Reached}
use Rattle.line.specs.declared.through.Reached.TheVariants as N
use Rattle.line.specs.declared.through.Turn.{Turn}
use Rattle.line.specs.declared.through.Turn.TheVariants as U
use Rattle.line.specs.declared.through.Came.{Came}
use Rattle.line.specs.declared.through.Came.TheVariants as C

abbrev pub went_of : Result Going Refusal → Went
went_of (Ok (G.On l)) = onward l
went_of (Ok (G.Stopped l)) = stopped l
went_of (Err e) = refused (number_of e)

-- the node i with so many calls left: its index (30), then 32, then what is made of it and its plane
unfoldable pub node_for : {X : Type 0} → (Entered End → X) → List ℕ → Tables → ℕ → ℕ → Answer X
node_for make f t i left = cond (ltb i t.nodes.count) (cond (eqb left 0) (Ans.refused 32) (made_from make f t i)) (Ans.refused 30)

-- a node whose plane the part s crosses, met on a way down with k calls left: its words, the distances of the ends of s from its plane, the calls
-- left below it; whatever is set before it, what becomes of s at this node is `all`
pub record Crossed (f : List ℕ) (t : Tables) (k : ℕ) (s : Stretch) (w : Words) (a b : Float) (left : ℕ) (all : ℕ → LineTrace → Went) : Type 0 where
  pub plane : Hyperplane
  pub read : Fast.plane_in f t w.plane ≡ answer plane
  pub falls : suc left ≤ k
  pub differ : Pl.same_side (Pl.from_dist a) (Pl.from_dist b) ≡ false
  pub says : (root : ℕ) (l : LineTrace)
      → across (Fast.table f t) (λ n s l. line_from (Fast.table f t) root left n s l) root (Fast.node_of t.table w) plane s a b l
      ≡ all root l

-- where the way down of the part s from the node i, with k calls left, comes to
abbrev pub Comes : List ℕ → Tables → ℕ → ℕ → Stretch → Result Descent Refusal → Type 0
Comes f t i k s (Ok (D.Leaf c)) = (root : ℕ) (l : LineTrace) → onward (into c l) ≡ line_from (Fast.table f t) root k i s l
Comes f t i k s (Ok (D.Crossing w a b left)) = Crossed f t k s w a b left (λ root l. line_from (Fast.table f t) root k i s l)
Comes f t i k s (Err e) = (root : ℕ) (l : LineTrace) → refused (number_of e) ≡ line_from (Fast.table f t) root k i s l

-- the child of a node on a side
abbrev pub child_at : Tables → Words → Bool → Child End
child_at t w front = child_on (Fast.node_of t.table w) (Pl.side_if front)

unfoldable pub contents_beside : List ℕ → Tables → Words → Bool → Vector3 → Answer BspLeafContents
contents_beside f t w front p = contents_below (Fast.table f t) (child_at t w front) p

-- a child traced with so many calls left
unfoldable pub child_went : List ℕ → Tables → ℕ → ℕ → Words → Bool → Stretch → LineTrace → Went
child_went f t root left w front s l = on_child (Fast.table f t) (λ n s l. line_from (Fast.table f t) root left n s l) (child_at t w front) s l

-- beyond a plane: on to the node by `go`, for the part past the crossing, or tracing ends
abbrev pub far_went : (ℕ → Stretch → LineTrace → Went) → Stretch → LineTrace → Result Far Refusal → Went
far_went go s l (Ok (F.Node i)) = go i s l
far_went go s l (Ok (F.Ended r)) = went_of (Ok r)
far_went go s l (Err e) = refused (number_of e)

-- what becomes of the part s beyond the plane of a node that it crosses at k
abbrev pub Beyond : Ground → Words → Bool → Stretch → Float → LineTrace → Result Far Refusal → Type 0
Beyond g w front s k l r =
    (h : Hyperplane) → Fast.plane_in g.s.now g.t w.plane ≡ answer h → (go : ℕ → Stretch → LineTrace → Went)
    → far_went go (far_part s k) l r
    ≡ beyond (Fast.table g.s.now g.t) go g.root (Fast.node_of g.t.table w) h s (Pl.side_if front) k l (contents_beside g.s.now g.t w (not front) (point_at s k))

-- the whole line from the root
abbrev pub all_went : List ℕ → Tables → ℕ → Vector3 → Vector3 → Went
all_went f t root p q = line_from (Fast.table f t) root 512 root (stretch zero32 one32 p q) (unset q)

-- ---- the whole line in one loop (`follow`)

-- the file has all nodes and planes, and a word below 2^15 for each node
abbrev pub Worded : Ground → Type 0
Worded g = (g.whole ≡ true) × (g.t.nodes.count ≤ 32768)

-- where the line stands: at a child, by its word, with the calls left and a part
pub record Stand : Type 0 where
  pub word : ℕ
  pub left : ℕ
  pub part : Stretch

-- the part between two points of the line, and where it stands with that part
abbrev pub part_from : Mark → Mark → Stretch
part_from x y = stretch x.at y.at (Fast.point_of x.point) (Fast.point_of y.point)

abbrev pub stands : ℕ → ℕ → Mark → Mark → Stand
stands word left x y = record { word = word; left = left; part = part_from x y }

abbrev pub from_start : ℕ → Vector3 → Vector3 → Stand
from_start root p q = record { word = root; left = 512; part = stretch zero32 one32 p q }

-- y is an end of the line
abbrev pub Tip : Float → Vector3 → Mark → Type 0
Tip k p y = (y.at ≡ k) × (Fast.point_of y.point ≡ p)

-- a child by its word, for a part of the line and for a look, with so many calls left
abbrev pub word_went : List ℕ → Tables → ℕ → ℕ → ℕ → Stretch → LineTrace → Went
word_went f t root left word s l = on_child (Fast.table f t) (λ n s l. line_from (Fast.table f t) root left n s l) (Fast.child_of t.table word) s l

abbrev pub word_look : List ℕ → Tables → ℕ → ℕ → Vector3 → Answer BspLeafContents
word_look f t left word p = contents_on (Fast.table f t) (λ n. contents_from (Fast.table f t) left n p) (Fast.child_of t.table word)

-- where the way down of the part s from a child, by its word i, with k calls left, comes to: what becomes of s there, and what a look from where s
-- starts finds, are what they are at the child
abbrev pub Reaches : List ℕ → Tables → ℕ → ℕ → Stretch → Option Reached → Type 0
Reaches f t i k s (Some (N.End w)) =
    (32768 ≤ w)
    × ((root : ℕ) (l : LineTrace) → into_leaf (Fast.table f t) l (Fast.contents_met f t w) ≡ word_went f t root k i s l)
    × (Fast.contents_met f t w ≡ word_look f t k i s.start)
Reaches f t i k s (Some (N.Crossing w a b left)) =
    Crossed f t k s w a b left (λ root l. word_went f t root k i s l) × (word_look f t left (word_on w (Ieee.le zero32 a)) s.start ≡ word_look f t k i s.start)
Reaches f t i k s None = Unit {0}

-- a plane that a part of the line crosses at k: the node's words, the calls left below it, the distance of the part's start
pub record Cut : Type 0 where
  pub w : Words
  pub left : ℕ
  pub a : Float
  pub k : Float
  pub part : Stretch

-- whether the line comes from the front of a plane that waits
abbrev pub from_front : Mark → Bool
from_front y = leb 67108864 (y.held % 4294967296)

-- y keeps the plane of a node that is crossed where the part `near` ends
pub record Keeps (w : Words) (front : Bool) (left : ℕ) (near : Stretch) (y : Mark) : Type 0 where
  pub plane_is : y.held / 4294967296 ≡ w.plane
  pub word_is : y.held / 1024 % 65536 ≡ word_on w (not front)
  pub left_is : y.held % 1024 ≡ left
  pub side_is : from_front y ≡ front
  pub at_is : y.at ≡ near.to
  pub point_is : Fast.point_of y.point ≡ near.end

abbrev pub Kept : Cut → Mark → Type 0
Kept x y = Keeps x.w (Ieee.le zero32 x.a) x.left (near_part x.part x.k) y

-- beyond the plane h that waits: its near side has come to w
abbrev pub past_waiting : List ℕ → Tables → ℕ → Cut → Hyperplane → Went → Went
past_waiting f t root x h w =
    past (Fast.table f t) (λ n s l. line_from (Fast.table f t) root x.left n s l) root (Fast.node_of t.table x.w) h x.part (Pl.from_dist x.a) x.k w

-- beyond all planes that wait, the nearest first, it comes to `all`
abbrev pub Resumes : List ℕ → Tables → ℕ → List Cut → Went → Went → Type 0
Resumes f t root [] w all = w ≡ all
Resumes f t root (x ∷ xs) w all =
    (x.left ≤ 512) × ((h : Hyperplane) × ((Fast.plane_in f t x.w.plane ≡ answer h) × Resumes f t root xs (past_waiting f t root x h w) all))

-- the line is blocked at the plane x
abbrev pub Blocks : List ℕ → Tables → ℕ → Cut → LineTrace → Went → Type 0
Blocks f t root x l all =
    (h : Hyperplane) × ((Fast.plane_in f t x.w.plane ≡ answer h) × (blocked (Fast.table f t) root h (Pl.from_dist x.a) x.part x.k l ≡ all))

-- The line stands at a child, by its word, with the part s, and the planes xs wait; `looked`: the first end that it comes to is what the look
-- beyond the plane x finds. Whatever that is, the line is blocked at x or goes on.
abbrev pub Follows : List ℕ → Tables → ℕ → List Cut → ℕ → Stretch → ℕ → LineTrace → Cut → Bool → Went → Type 0
Follows f t root xs left s word l x looked all =
    (c : BspLeafContents) → word_look f t left word s.start ≡ answer c
    → (looked && Contents.equal c Solid ≡ true → Blocks f t root x l all)
    × (looked && Contents.equal c Solid ≡ false → Resumes f t root xs (word_went f t root left word s l) all)

-- beyond the plane x that waits, as far as y
abbrev pub beyond_it : Mark → Mark → Stand
beyond_it x y = stands (x.held / 1024 % 65536) (x.held % 1024) x y

-- what is set in a line to the point q, by what it has met as one number: 1 stands for Solid, 2 for Empty, 4 for any other contents
abbrev pub seen_line : Vector3 → ℕ → LineTrace
seen_line q n = line_trace one32 q (line_plane (Vec.vector zero32 zero32 zero32) zero32) (ltb n 2) (eqb (n % 2) 1) (eqb (n / 2 % 2) 1) (leb 4 n)

-- m is what was met, n, and the contents of a code
abbrev pub Meets : ℕ → ℕ → ℕ → Type 0
Meets n code m = (q : Vector3) (c : BspLeafContents) → code ≡ code_of c → seen_line q m ≡ into c (seen_line q n)

-- what comes of an end, by its word, with n met before: a leaf is traced into, with m met then; or the line is blocked
abbrev pub Met : List ℕ → Tables → ℕ → ℕ → Bool → Option Turn → Type 0
Met f t w n looked (Some (U.Into m)) =
    (m < 8)
    × ((c : BspLeafContents) × ((answer c ≡ Fast.contents_met f t w) × (looked && Contents.equal c Solid ≡ false) × ((q : Vector3) → seen_line q m ≡ into c (seen_line q n))))
Met f t w n looked (Some U.Blocked) = (c : BspLeafContents) × ((answer c ≡ Fast.contents_met f t w) × (looked && Contents.equal c Solid ≡ true))
Met f t w n looked (Some (U.Crossing x front left near)) = ⊥
Met f t w n looked None = Unit {0}

-- one turn of the line: on to a plane that it crosses; into the leaf of the end that it comes to, or it is blocked there
abbrev pub Turned : List ℕ → Tables → Stand → ℕ → Bool → Option Turn → Type 0
Turned f t at n looked (Some (U.Crossing w front left near)) =
    (a : Float) × ((b : Float) × ((front ≡ Ieee.le zero32 a) × (near ≡ near_part at.part (crossing a b)) × Reaches f t at.word at.left at.part (Some (N.Crossing w a b left))))
Turned f t at n looked (Some (U.Into m)) = (w : ℕ) × (Reaches f t at.word at.left at.part (Some (N.End w)) × Met f t w n looked (Some (U.Into m)))
Turned f t at n looked (Some U.Blocked) = (w : ℕ) × (Reaches f t at.word at.left at.part (Some (N.End w)) × Met f t w n looked (Some U.Blocked))
Turned f t at n looked None = Unit {0}

-- what becomes of the line from where it stands, and where it comes to
abbrev pub stand_went : Ground → Stand → Went
stand_went g at = word_went g.s.now g.t g.root at.left at.word at.part (unset at.part.end)

abbrev pub Arrives : Ground → Stand → Option Came → Type 0
Arrives g at (Some (C.Through q m)) = onward (seen_line q m) ≡ stand_went g at
Arrives g at (Some (C.Blocked y q m)) = (x : Cut) × (Kept x y × Blocks g.s.now g.t g.root x (seen_line q m) (stand_went g at))
Arrives g at None = Unit {0}

-- what is said at once of the whole line is what it answers
abbrev pub AtOnce : Answer LineTrace → Option LineTrace → Type 0
AtOnce a (Some l) = answer l ≡ a
AtOnce a None = Unit {0}

-- with a fraction and an end
abbrev pub ended : Float → Vector3 → LineTrace → LineTrace
ended k e l = line_trace k e l.plane l.all_solid l.start_solid l.in_open l.in_water

-- where the line is blocked at the plane x, which is kept as y, with l set before
abbrev pub Stops : Ground → Mark → LineTrace → Option LineTrace → Type 0
Stops g y l (Some m) =
    (x : Cut) → Kept x y → (h : Hyperplane) → Fast.plane_in g.s.now g.t x.w.plane ≡ answer h
    → stopped m ≡ blocked (Fast.table g.s.now g.t) g.root h (Pl.from_dist x.a) x.part x.k l
Stops g y l None = Unit {0}
