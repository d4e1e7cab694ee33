-- For the contracts of functions that no other crate can name; a reader of the calls may leave this file out.
-- What the parts of `made_up` leave in the buffer.
use Rattle.std.specs.Prelude.{ℕ, ◌+◌, List, [], ◌∷◌, ◌++◌, length, take, drop}
use Rattle.written.specs.Bytes.{u32}
use Rattle.made.specs.Map.{node_number, Side, node, solid, empty}
use Rattle.made.specs.File.{plane, render_node, clip_node}
use Rattle.made.specs.declared.Part.{Part}
use Rattle.made.specs.declared.Part.TheVariants.{Planes, RenderNodes, ClipNodes}

-- the list with xs in it from a place on
abbrev pub put_at : ℕ → List ℕ → List ℕ → List ℕ
put_at at xs l = take at l ++ (xs ++ drop (at + length xs) l)

-- numbers of four bytes each
abbrev pub words_of : List ℕ → List ℕ
words_of [] = []
words_of (w ∷ ws) = u32 w ++ words_of ws

-- a child's 16 bits, where those of the leaves are given
abbrev pub side_word : ℕ → ℕ → Side → ℕ
side_word s e (node k) = k
side_word s e solid = s
side_word s e empty = e

abbrev pub size_of : Part → ℕ
size_of Planes = 20
size_of RenderNodes = 24
size_of ClipNodes = 8

-- the record of node i of n, by its number
abbrev pub record_bytes : Part → ℕ → ℕ → ℕ → List ℕ
record_bytes Planes n i number = plane number
record_bytes RenderNodes n i number = render_node n i number
record_bytes ClipNodes n i number = clip_node n i number

abbrev pub record_of_node : Part → ℕ → ℕ → ℕ → List ℕ
record_of_node part seed n i = record_bytes part n i (node_number seed i)
