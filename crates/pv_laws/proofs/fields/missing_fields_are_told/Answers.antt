use Rattle.pv_laws.proofs.MissingFields.{missing_told, place_nowhere}
use Rattle.pv_laws.proofs.fields.missing_fields_are_told.Goals as goal

pub returns-clause-told : goal.returns-clause-told
returns-clause-told c = missing_told

pub returns-clause-nowhere : goal.returns-clause-nowhere
returns-clause-nowhere c = place_nowhere
