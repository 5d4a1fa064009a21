use Rattle.std.proofs.Common.{◌≡◌, map, take}
use Rattle.pv_union.specs.Tags.{in_quotes}
use Rattle.pv_union.proofs.tag_texts.tags_text.Given as goal

abbrev pub invariant-loop-tag : goal.invariant-loop-tag
invariant-loop-tag l = l.texts.items ≡ map in_quotes (take l.tag-index l.tags)
