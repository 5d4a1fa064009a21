-- The tag of an input, the choice that has it, and what is told where there is none.
use Rattle.std.specs.Prelude.{ℕ, ◌+◌, ℤ, bytes_eq, if◌then◌else◌, List, [], ◌∷◌, ◌++◌, map, codes, Option, None, Some, Result, Ok, Err}
use Rattle.std.specs.Fmt.{decimal, signed_decimal}
use Rattle.pv_number.specs.WrittenIntegers.{integer}
use Rattle.pv_tree.specs.declared.Step.{Step}
use Rattle.pv_tree.specs.declared.Step.TheVariants.{Name, Index}
use Rattle.pv_tree.specs.declared.Tree.{Tree, out-Tree}
use Rattle.pv_tree.specs.declared.Tree.TheOpen.{Tree-F}
use Rattle.pv_tree.specs.Parts.{members_at}
use Rattle.pv_notation.specs.Compact.{compact}
use Rattle.pv_fault.specs.declared.Kind.{Kind}
use Rattle.pv_fault.specs.declared.Kind.TheVariants as kind
use Rattle.pv_rules.specs.declared.TagRule.{TagRule}
use Rattle.pv_paths.specs.Following.{found}
use Rattle.pv_union.specs.Labels.{joined_by}
use Rattle.pv_union.specs.declared.tag.Tag.{Tag}
use Rattle.pv_union.specs.declared.tag.Tag.TheVariants as lent

-- What the tag of an input is: the input is no object, it has no tag, or its tag is a text, a whole
-- number of 128 bits, or another tree.
pub data Read : Type 0 where
  not_object : Read
  missing : Read
  text : List ℕ → Read
  int : ℤ → Read
  odd : Tree → Read

-- a tag that was lent
abbrev pub read : Tag → Read
read lent.NotObject = not_object
read lent.Missing = missing
read (lent.Text t) = text t.now
read (lent.Int n) = int n
read (lent.Odd t) = odd t.now

-- a number as a tag
abbrev pub number_read : Tree → Option ℤ → Read
number_read t None = odd t
number_read t (Some n) = int n

-- a tree as a tag
abbrev pub tree_read : Tree → Tree-F Tree → Read
tree_read t (Tree-F.Str s) = text s
tree_read t (Tree-F.Num lexeme) = number_read t (integer lexeme)
tree_read t x = odd t

-- what was found at a path as a tag
abbrev pub found_read : Option (ℕ × Tree) → Read
found_read None = missing
found_read (Some hit) = tree_read hit.1 (out-Tree hit.1)

-- the tag of an input that is an object: what stands at the first path that is found
abbrev pub tag_in : TagRule → Tree → Option (List (List ℕ × Tree)) → Read
tag_in r t None = not_object
tag_in r t (Some ms) = found_read (found r.discriminator.paths t)

-- the tag of an input
unfoldable pub tag : TagRule → Tree → Read
tag r t = tag_in r t (members_at (out-Tree t))

-- the place of a text among the tags, of which the first has the place i
abbrev pub place_from : ℕ → List (List ℕ) → List ℕ → Option ℕ
place_from i [] key = None
place_from i (t ∷ ts) key = if bytes_eq key t then Some i else place_from (i + 1) ts key

-- the place of the choice that has a tag; a whole number is read as its decimal text
abbrev pub place_of : List (List ℕ) → Read → Option ℕ
place_of tags not_object = None
place_of tags missing = None
place_of tags (text t) = place_from 0 tags t
place_of tags (int n) = place_from 0 tags (signed_decimal n)
place_of tags (odd t) = None

-- a text in single quotes
abbrev pub in_quotes : List ℕ → List ℕ
in_quotes t = codes "'" ++ t ++ codes "'"

-- a step of a path of the discriminator
abbrev pub step_text : Step → List ℕ
step_text (Name name) = in_quotes name
step_text (Index i) = decimal i

-- a path of the discriminator
abbrev pub path_text : List Step → List ℕ
path_text steps = joined_by (codes ".") (map step_text steps)

-- the paths of the discriminator
unfoldable pub discriminator_text : List (List Step) → List ℕ
discriminator_text paths = joined_by (codes " | ") (map path_text paths)

-- the tags that are expected
unfoldable pub tags_text : List (List ℕ) → List ℕ
tags_text tags = joined_by (codes ", ") (map in_quotes tags)

-- a tag that no choice has
abbrev pub unknown_tag : TagRule → List ℕ → Kind
unknown_tag r t =
    kind.UnionTagInvalid (discriminator_text r.discriminator.paths) t (tags_text r.tags)

-- the error of an input whose tag no choice has
abbrev pub tag_error : TagRule → Read → Kind
tag_error r not_object = kind.DictType
tag_error r missing = kind.UnionTagNotFound (discriminator_text r.discriminator.paths)
tag_error r (text t) = unknown_tag r t
tag_error r (int n) = unknown_tag r (signed_decimal n)
tag_error r (odd t) = unknown_tag r (compact t)

-- the place, or the error where there is none
abbrev pub place_or_error : TagRule → Read → Option ℕ → Result ℕ Kind
place_or_error r read None = Err (tag_error r read)
place_or_error r read (Some place) = Ok place

-- the place of the choice that an input has the tag of, or what is wrong with the input
unfoldable pub chosen : TagRule → Tree → Result ℕ Kind
chosen r t = place_or_error r (tag r t) (place_of r.tags (tag r t))
