-- Which nodes reach themselves, and how long walks are, as functions of the graph.
use Rattle.std.specs.Prelude.{ℕ, zero, suc, ◌+◌, max, Bool, false, ◌||◌, ◌==◌, nat_lt, List, [], ◌∷◌, map, length, filter, slice_index_or}
use Rattle.std.specs.List.{list_any, range_with_len}

-- the nodes of a graph, by number
abbrev pub nodes : List (List ℕ) → List ℕ
nodes g = range_with_len 0 (length g)

-- the nodes to which edges lead from i
abbrev pub successors : List (List ℕ) → ℕ → List ℕ
successors g i = filter (λ k. nat_lt k (length g)) (slice_index_or g i [])

-- whether a walk of at least one and at most so many steps leads from i to j
unfoldable pub leads_within : ℕ → List (List ℕ) → ℕ → ℕ → Bool
leads_within zero g i j = false
leads_within (suc n) g i j = list_any (λ k. k == j || leads_within n g k j) (successors g i)

-- whether a walk of one or more steps leads from i to i: the shortest has at most as many steps as
-- there are nodes
unfoldable pub reaches_itself : List (List ℕ) → ℕ → Bool
reaches_itself g i = leads_within (length g) g i i

-- of each node whether it reaches itself
unfoldable pub flags_of : List (List ℕ) → List Bool
flags_of g = map (reaches_itself g) (nodes g)

-- whether some node reaches itself
unfoldable pub has_cycle : List (List ℕ) → Bool
has_cycle g = list_any (λ flag. flag) (flags_of g)

-- the greatest of the numbers, or 0 where there is none
abbrev pub most : List ℕ → ℕ
most [] = 0
most (n ∷ ns) = max n (most ns)

-- the most steps, up to a bound, that a walk from i has
unfoldable pub longest_within : ℕ → List (List ℕ) → ℕ → ℕ
longest_within zero g i = 0
longest_within (suc n) g i = most (map (λ k. longest_within n g k + 1) (successors g i))

-- the most steps, up to the number of nodes, that a walk has
unfoldable pub chain_of : List (List ℕ) → ℕ
chain_of g = most (map (longest_within (length g) g) (nodes g))
