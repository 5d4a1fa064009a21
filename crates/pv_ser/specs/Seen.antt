-- Picks that are lent, as picks.
use Rattle.std.specs.Prelude.{map}
use Rattle.pv_ser.specs.declared.in_force.InForce.{InForce}
use Rattle.pv_ser.specs.Force as spec

-- the picks in force that are lent
abbrev pub seen : InForce → spec.InForce
seen f = record {
  include = map (λ r. r.now) f.include.items;
  exclude = map (λ r. r.now) f.exclude.items;
}
