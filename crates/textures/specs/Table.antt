-- For the contracts of functions that no other crate can name; a reader of the calls may leave this file out.
-- The table of stems in which the code searches, for a part of the textures at a time: a tree over the bits of the two numbers of a stem.
-- Node v, from 1 on, has its stem's numbers at 4v and 4v + 1, and its two branches at 4v + 2 and 4v + 3, where 0 stands for no node. The
-- tree hangs at the first branch of node 0. No answer depends on how the tree is shaped: laws in proofs/Tables.antt.
use Rattle.std.specs.Prelude.{ℕ, zero, suc, ◌+◌, ◌*◌, ◌-◌, ◌/◌, ◌%◌, ◌^◌, ◌<◌, ◌≤◌, ◌≡◌, Bool, true, false, not, ◌&&◌, cond, List, eqb, leb, ltb, length, get_or, set, Option, Some, None}
use Rattle.textures.specs.Count.{any, count, lowest}
use Rattle.textures.specs.declared.table.Located.{Located}
use Rattle.textures.specs.declared.table.Located.TheVariants.{At, Free, Deep}

-- a number in which the stems of usual textures differ early
unfoldable pub mix : ℕ → ℕ → ℕ
mix a b = (a % 4294967291 + b % 4294967279) % 4294967296 * 2654435769 % 4294967296

-- The branch to take with n levels left: the bits of `mix`, which spread usual stems, and then each bit of a stem's two numbers, so that
-- no two stems take the same turns at all levels.
unfoldable pub turn : ℕ → ℕ → ℕ → ℕ
turn a b n = cond (ltb n 56) (b / 2 ^ n % 2) (cond (ltb n 113) (a / 2 ^ (n - 56) % 2) (mix a b / 2 ^ (n - 113) % 2))

abbrev pub branch : ℕ → ℕ → ℕ
branch v d = 4 * v + 2 + d

-- whether node v has this stem
unfoldable pub holds : List ℕ → ℕ → ℕ → ℕ → Bool
holds t v a b = eqb (get_or t (4 * v) 0) a && eqb (get_or t (4 * v + 1) 0) b

-- at node v, which hangs at a branch
abbrev pub at_node : List ℕ → ℕ → ℕ → ℕ → ℕ → (ℕ → Located) → Located
at_node t a b slot v deeper =
    cond (eqb v 0) (Free slot)
    (cond (leb (length t / 4) v) Deep
    (cond (holds t v a b) (At v)
    (deeper v)))

-- the node with a stem below branch d of node u, or the branch where it belongs; n levels at most
unfoldable pub seek : List ℕ → ℕ → ℕ → ℕ → ℕ → ℕ → Located
seek t a b zero u d = Deep
seek t a b (suc n) u d = at_node t a b (branch u d) (get_or t (branch u d) 0) (λ v. seek t a b n v (turn a b n))

-- the table with a node w more
abbrev pub added : List ℕ → ℕ → ℕ → ℕ → ℕ → List ℕ
added t slot w a b = set (set (set t (4 * w) a) (4 * w + 1) b) slot w

-- a table of the nodes below w: all past them is zero, its branches lead to these nodes, and each is found by its stem
pub record Table (t : List ℕ) (w : ℕ) : Type 0 where
  pub some : 0 < w
  pub room : 4 * w ≤ length t
  pub rest : (p : ℕ) → 4 * w ≤ p → get_or t p 0 ≡ 0
  pub below : (v d : ℕ) → v < w → d < 2 → get_or t (branch v d) 0 < w
  pub finds : (v : ℕ) → 0 < v → v < w → seek t (get_or t (4 * v) 0) (get_or t (4 * v + 1) 0) 145 0 0 ≡ At v

-- What becomes of a table of the nodes below w and of w where a texture is met that passes a test or not: it is skipped; its stem is there;
-- it is added; or there is no room, said by `None`, which does not happen while there is no node.
pub data Insertion (passes : Bool) (t : List ℕ) (w a b : ℕ) : List ℕ → Option ℕ → Type 0 where
  skip : passes ≡ false → Insertion passes t w a b t (Some w)
  known : (v : ℕ) → seek t a b 145 0 0 ≡ At v → Insertion passes t w a b t (Some w)
  new : (f : ℕ) → passes ≡ true → seek t a b 145 0 0 ≡ Free f → 4 * w + 4 ≤ length t → Insertion passes t w a b (added t f w a b) (Some (w + 1))
  full : 1 < w → Insertion passes t w a b t None

-- a node with a stem
pub record Node (t : List ℕ) (w a b : ℕ) : Type 0 where
  pub node : ℕ
  pub positive : 0 < node
  pub inside : node < w
  pub has : holds t node a b ≡ true

-- a texture with a stem, among those that pass a test
pub record Source (p : ℕ → Bool) (ka kb : ℕ → ℕ) (from to a b : ℕ) : Type 0 where
  pub number : ℕ
  pub start : from ≤ number
  pub stop : number < to
  pub passes : p number ≡ true
  pub front : ka number ≡ a
  pub back : kb number ≡ b

-- the table of the stems of the textures from `from` to `to` that pass a test
pub record Filled (p : ℕ → Bool) (ka kb : ℕ → ℕ) (from to : ℕ) (t : List ℕ) (w : ℕ) : Type 0 where
  pub table : Table t w
  pub covers : (j : ℕ) → from ≤ j → j < to → p j ≡ true → Node t w (ka j) (kb j)
  pub sources : (v : ℕ) → 0 < v → v < w → Source p ka kb from to (get_or t (4 * v) 0) (get_or t (4 * v + 1) 0)

-- texture j passes a test and has the stem of node v
abbrev pub hits : (ℕ → Bool) → (ℕ → ℕ) → (ℕ → ℕ) → List ℕ → ℕ → ℕ → Bool
hits p ka kb t v j = p j && holds t v (ka j) (kb j)

-- a node is marked exactly if one of the first n textures that pass a test has its stem
abbrev pub Marked : (ℕ → Bool) → (ℕ → ℕ) → (ℕ → ℕ) → List ℕ → ℕ → List ℕ → ℕ → Type 0
Marked p ka kb t w marks n = (v : ℕ) → 0 < v → v < w → get_or marks v 0 ≡ cond (any (hits p ka kb t v) n) 1 0

-- a node that is not marked
abbrev pub is_unmarked : List ℕ → ℕ → Bool
is_unmarked marks v = ltb 0 v && eqb (get_or marks v 0) 0

-- texture i passes the first test, and none of n textures that passes the second has its stem
abbrev pub is_lone : (ℕ → Bool) → (ℕ → Bool) → (ℕ → ℕ) → (ℕ → ℕ) → ℕ → ℕ → Bool
is_lone p q ka kb n i = p i && not (any (λ j. q j && (eqb (ka i) (ka j) && eqb (kb i) (kb j))) n)

-- texture i passes a test, and none before it that does has its stem
abbrev pub is_earliest : (ℕ → Bool) → (ℕ → ℕ) → (ℕ → ℕ) → ℕ → Bool
is_earliest p ka kb i = is_lone p p ka kb i i

-- ---- the first texture with the stem of each

-- the lowest number below m that passes a test; 2^32 - 1 where there is none
unfoldable pub earliest_of : (ℕ → Bool) → ℕ → ℕ
earliest_of q m = cond (any q m) (lowest q m) 4294967295

-- texture j passes a test and has the stem of texture i
abbrev pub is_like : (ℕ → Bool) → (ℕ → ℕ) → (ℕ → ℕ) → ℕ → ℕ → Bool
is_like p ka kb i j = p j && (eqb (ka i) (ka j) && eqb (kb i) (kb j))

-- what is known of texture i when the stems of the first m textures have been gone through: the first texture with its stem, if it is one of them
unfoldable pub known_of : (ℕ → Bool) → (ℕ → ℕ) → (ℕ → ℕ) → ℕ → ℕ → ℕ
known_of p ka kb m i = cond (p i) (earliest_of (is_like p ka kb i) m) 4294967295

-- a list of this for n textures
abbrev pub Known : (ℕ → Bool) → (ℕ → ℕ) → (ℕ → ℕ) → ℕ → ℕ → List ℕ → Type 0
Known p ka kb n m list = (i : ℕ) → i < n → get_or list i 0 ≡ known_of p ka kb m i

-- the same where a part of the textures, from `from` to `to`, has been gone through for the first j textures
abbrev pub KnownTo : (ℕ → Bool) → (ℕ → ℕ) → (ℕ → ℕ) → ℕ → ℕ → ℕ → ℕ → List ℕ → Type 0
KnownTo p ka kb n from to j list = (i : ℕ) → i < n → get_or list i 0 ≡ known_of p ka kb (cond (ltb i j) to from) i

-- Of each node of the table of a part that starts at `from`: the first texture with its stem, of the first j. Nothing is said of a stem that a
-- texture before the part has.
abbrev pub Heads : (ℕ → Bool) → (ℕ → ℕ) → (ℕ → ℕ) → List ℕ → ℕ → ℕ → List ℕ → ℕ → Type 0
Heads p ka kb t w from heads j = (v : ℕ) → 0 < v → v < w → any (hits p ka kb t v) from ≡ false → get_or heads v 0 ≡ earliest_of (hits p ka kb t v) j

-- What a search for the number with k others before it, of those below n that pass a test, has come to: that number, which `seen` of them are
-- before; or none, and `seen` of them are below n, which are k at most.
abbrev pub Reached : (ℕ → Bool) → ℕ → ℕ → Option ℕ → ℕ → Type 0
Reached p k n None seen = (seen ≡ count p n) × (seen ≤ k)
Reached p k n (Some i) seen = (i < n) × (p i ≡ true) × (seen ≡ count p i) × (seen ≡ k)

-- how many that pass a test come before j, by letter and then by number
unfoldable pub ranked : (ℕ → Bool) → (ℕ → ℕ) → ℕ → ℕ → ℕ
ranked p f n j = count (λ l. p l && ltb (f l) (f j)) n + count (λ l. p l && eqb (f l) (f j)) j
