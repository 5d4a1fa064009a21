use Rattle.std.proofs.Common.{◌≡◌, map, take}
use Rattle.pv_union.specs.Tags.{path_text}
use Rattle.pv_union.proofs.tag_texts.discriminator_text.Given as goal

abbrev pub invariant-loop-path : goal.invariant-loop-path
invariant-loop-path l = l.texts.items ≡ map path_text (take l.path-index l.paths)
