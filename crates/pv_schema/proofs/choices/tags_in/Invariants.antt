use Rattle.std.proofs.Common.{◌≡◌, take}
use Rattle.pv_tree.specs.Names.{names}
use Rattle.pv_schema_table.specs.declared.Kind.TheVariants as kind
use Rattle.pv_schema_check.specs.Find.{itself}
use Rattle.pv_schema.specs.Making.{named_in, made}
use Rattle.pv_schema.proofs.choices.tags_in.Given as goal

abbrev pub invariant-loop-tag : goal.invariant-loop-tag
invariant-loop-tag l = l.tags.items ≡ names (named_in itself made kind.Schema (take l.tag-index l.choices))
