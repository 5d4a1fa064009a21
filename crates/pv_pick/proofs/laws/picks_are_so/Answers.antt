use Rattle.std.proofs.Common.{ap}
use Rattle.pv_pick.specs.Picks.{Role}
use Rattle.pv_pick.proofs.Levels.{role_null, role_bool, role_num, role_str, role_array, role_object, pick_array, pick_object}
use Rattle.pv_pick.proofs.laws.picks_are_so.Goals as goal

pub returns-clause-flag : goal.returns-clause-flag
returns-clause-flag c = λ b. ap (λ (r : Role). r.is_pick) (role_bool b)

pub returns-clause-object : goal.returns-clause-object
returns-clause-object c = pick_object

pub returns-clause-array : goal.returns-clause-array
returns-clause-array c = pick_array

pub returns-clause-others : goal.returns-clause-others
returns-clause-others c =
    (ap (λ (r : Role). r.is_pick) role_null, λ l. ap (λ (r : Role). r.is_pick) (role_num l), λ t. ap (λ (r : Role). r.is_pick) (role_str t))

pub returns-clause-item : goal.returns-clause-item
returns-clause-item c = (λ t. ap (λ (r : Role). r.is_item) (role_str t), λ l. ap (λ (r : Role). r.is_item) (role_num l))

pub returns-clause-no_item : goal.returns-clause-no_item
returns-clause-no_item c =
    (ap (λ (r : Role). r.is_item) role_null, λ b. ap (λ (r : Role). r.is_item) (role_bool b), λ ts. ap (λ (r : Role). r.is_item) (role_array ts), λ ms. ap (λ (r : Role). r.is_item) (role_object ms))
