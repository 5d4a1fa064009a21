use Rattle.pv_schema.proofs.MakeOpens.{no_field, object_made, array_made, field_made, fields_made, choices_made, tagged_made, plain_choice, labelled_choice, no_choice}
use Rattle.pv_schema.proofs.+make.Goals as goal

pub making::make_node-returns-in_ok-node-in-Object : goal.making::make_node-returns-in_ok-node-in-Object
making::make_node-returns-in_ok-node-in-Object t c = object_made _ _ c.in-Object.members c.in-Object.is c.in_ok-node-in-Object.ensures

pub making::make_nodes-returns-in_ok-nodes-in-Array : goal.making::make_nodes-returns-in_ok-nodes-in-Array
making::make_nodes-returns-in_ok-nodes-in-Array t c = array_made _ _ c.in-Array.items _ c.in-Array.is c.as_slice.ensures c.in_ok-nodes-in-Array.ensures

pub children::make_field_schema-returns-in_ok-schema-in-Object : goal.children::make_field_schema-returns-in_ok-schema-in-Object
children::make_field_schema-returns-in_ok-schema-in-Object t c =
    field_made _ _ c.args.kind c.in-Object.members c.in-Object.is c.in_ok-schema-in-Object.ensures

pub children::make_fields_of-returns-in_ok-schemas-in-Object : goal.children::make_fields_of-returns-in_ok-schemas-in-Object
children::make_fields_of-returns-in_ok-schemas-in-Object t c =
    fields_made _ _ c.args.kind c.in-Object.fields c.in-Object.is c.in_ok-schemas-in-Object.ensures

pub children::make_field_schema-returns-in-Null : goal.children::make_field_schema-returns-in-Null
children::make_field_schema-returns-in-Null t c = no_field _ _ c.args.kind c.in-Null.is c.any_node.ensures

pub choice_schemas::make_choices_of-returns-in_ok-nodes-in-Array : goal.choice_schemas::make_choices_of-returns-in_ok-nodes-in-Array
choice_schemas::make_choices_of-returns-in_ok-nodes-in-Array t c =
    choices_made _ _ c.in-Array.choices _ c.in-Array.is c.as_slice.ensures c.in_ok-nodes-in-Array.ensures

pub choice_schemas::make_tagged_of-returns-in_ok-nodes-in-Object : goal.choice_schemas::make_tagged_of-returns-in_ok-nodes-in-Object
choice_schemas::make_tagged_of-returns-in_ok-nodes-in-Object t c =
    tagged_made _ _ c.in-Object.choices c.in-Object.is c.in_ok-nodes-in-Object.ensures

pub choice_schemas::make_choice-returns-in_ok-node-in-Object : goal.choice_schemas::make_choice-returns-in_ok-node-in-Object
choice_schemas::make_choice-returns-in_ok-node-in-Object t c = plain_choice _ _ c.in-Object.members c.in-Object.is c.in_ok-node-in-Object.ensures

pub choice_schemas::make_choice-returns-in_ok-node-in-Array : goal.choice_schemas::make_choice-returns-in_ok-node-in-Array
choice_schemas::make_choice-returns-in_ok-node-in-Array t c =
    labelled_choice _ _ c.in-Array.items _ c.in-Array.is c.as_slice.ensures c.in_ok-node-in-Array.ensures

pub choice_schemas::make_choice-returns-in-Null : goal.choice_schemas::make_choice-returns-in-Null
choice_schemas::make_choice-returns-in-Null t c = no_choice _ _ c.in-Null.is c.any_node.ensures
