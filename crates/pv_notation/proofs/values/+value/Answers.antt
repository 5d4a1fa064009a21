use Rattle.std.proofs.Common.{rules}
use Rattle.pv_notation.specs.Notation.{notation, named_notation, entry_notation}
use Rattle.pv_notation.proofs.Joins.{all_joined}
use Rattle.pv_notation.proofs.Fronts.{front_past, front_same, stopped}
use Rattle.pv_notation.proofs.Written.{entry_added, entry_written, list_written, tuple_written, set_written, frozen_written, dict_written, root_written, enum_written, model_written}
use Rattle.pv_notation.proofs.values.+value.Goals as goal

pub write_values-returns-clause-ok : goal.write_values-returns-clause-ok
write_values-returns-clause-ok t c =
    all_joined notation _ _ _ c.args.values.now c.in-Some.rest.now c.in-Some.first.now c.loop-value.value-index (search rules) c.in_ok-write_part.ensures.ok c.loop-value.invariant c.loop-value-test.false

pub write_named-returns-clause-ok : goal.write_named-returns-clause-ok
write_named-returns-clause-ok t c =
    all_joined named_notation _ _ _ c.args.named.now c.in-Some.rest.now c.in-Some.field-0-0.now c.loop-name.name-index (search rules) (search rules) c.loop-name.invariant c.loop-name-test.false

pub write_entries-returns-clause-ok : goal.write_entries-returns-clause-ok
write_entries-returns-clause-ok t c =
    all_joined entry_notation _ _ _ c.args.entries.now c.in-Some.rest.now c.in-Some.field-0-0.now c.loop-key.key-index (search rules)
    (entry_written _ _ _ _ _ _ c.in-Some.field-0-0.now c.in_ok-push.ensures.ok (search rules) c.in_ok-push-2.ensures.ok (search rules) c.in_ok-push-3.ensures.ok) c.loop-key.invariant c.loop-key-test.false

pub write_part-returns-in_ok-push_slice-in-Enum-clause-ok : goal.write_part-returns-in_ok-push_slice-in-Enum-clause-ok
write_part-returns-in_ok-push_slice-in-Enum-clause-ok t c =
    enum_written _ _ _ _ _ _ c.in-Enum.cls c.in-Enum.name _ c.in-Enum.value c.in-Enum.is c.in_ok-open_list_of-in-Enum.ensures.ok (search rules) c.in_ok-push-in-Enum.ensures.ok (search rules) c.in_ok-push_slice-in-Enum.ensures.ok

pub write_part-returns-in_ok-push-in-List-2-clause-ok : goal.write_part-returns-in_ok-push-in-List-2-clause-ok
write_part-returns-in_ok-push-in-List-2-clause-ok t c =
    list_written _ _ _ _ _ c.in-List.values c.in-List.is c.in_ok-push-in-List.ensures.ok (search rules) c.in_ok-push-in-List-2.ensures.ok

pub write_part-returns-in_ok-write_tagged_values-in-Tuple-clause-ok : goal.write_part-returns-in_ok-write_tagged_values-in-Tuple-clause-ok
write_part-returns-in_ok-write_tagged_values-in-Tuple-clause-ok t c =
    tuple_written _ _ _ c.in-Tuple.values c.in-Tuple.is (search rules)

pub write_part-returns-in_ok-write_tagged_values-in-Set-clause-ok : goal.write_part-returns-in_ok-write_tagged_values-in-Set-clause-ok
write_part-returns-in_ok-write_tagged_values-in-Set-clause-ok t c =
    set_written _ _ _ c.in-Set.values c.in-Set.is (search rules)

pub write_part-returns-in_ok-write_tagged_values-in-Frozen-clause-ok : goal.write_part-returns-in_ok-write_tagged_values-in-Frozen-clause-ok
write_part-returns-in_ok-write_tagged_values-in-Frozen-clause-ok t c =
    frozen_written _ _ _ c.in-Frozen.values c.in-Frozen.is (search rules)

pub write_part-returns-in_ok-push_slice-in-Dict-clause-ok : goal.write_part-returns-in_ok-push_slice-in-Dict-clause-ok
write_part-returns-in_ok-push_slice-in-Dict-clause-ok t c =
    dict_written _ _ _ _ _ c.in-Dict.entries c.in-Dict.is c.in_ok-open_list-in-Dict.ensures.ok (search rules) c.in_ok-push_slice-in-Dict.ensures.ok

pub write_part-returns-in_ok-push_slice-in-Model-3-clause-ok : goal.write_part-returns-in_ok-push_slice-in-Model-3-clause-ok
write_part-returns-in_ok-push_slice-in-Model-3-clause-ok t c =
    model_written _ _ _ _ _ _ _ _ _ c.in-Model.cls _ c.in-Model.fields c.in-Model.set c.in-Model.extra c.in-Model.is c.in_ok-open_list_of-in-Model.ensures.ok c.in_ok-push-in-Model.ensures.ok (search rules)
    c.in_ok-push_slice-in-Model.ensures.ok (search rules) c.in_ok-push_slice-in-Model-2.ensures.ok (search rules) c.in_ok-push_slice-in-Model-3.ensures.ok

pub write_part-returns-in_ok-push_slice-in-Root-clause-ok : goal.write_part-returns-in_ok-push_slice-in-Root-clause-ok
write_part-returns-in_ok-push_slice-in-Root-clause-ok t c =
    root_written _ _ _ _ c.in-Root.cls _ c.in-Root.value c.in-Root.is c.in_ok-open_list_of-in-Root.ensures.ok (search rules) c.in_ok-push_slice-in-Root.ensures.ok

pub write_entries-loop-key-preserved : goal.write_entries-loop-key-preserved
write_entries-loop-key-preserved t c =
    entry_added _ _ _ _ _ _ _ c.in-Some.rest.now c.loop-key.key-index c.loop-key-item.result c.loop-key-test.true c.loop-key-item.is c.loop-key.invariant
    c.in_ok-push_slice.ensures.ok (search rules) c.in_ok-push-4.ensures.ok (search rules) c.in_ok-push-5.ensures.ok

-- what a writer that stops leaves: what was written before it, and what it left itself
pub write_named_value-returns-in_err-push-clause-err :
    goal.write_named_value-returns-in_err-push-clause-err
write_named_value-returns-in_err-push-clause-err t c = stopped _ (front_same _ _ c.in_err-push.ensures.err)

pub write_named_value-returns-in_err-write_quoted-clause-err :
    goal.write_named_value-returns-in_err-write_quoted-clause-err
write_named_value-returns-in_err-write_quoted-clause-err t c = stopped _ (front_past _ _ _ _ c.in_ok-push.ensures.ok (front_same _ _ c.in_err-write_quoted.ensures.err))

pub write_named_value-returns-in_err-push-2-clause-err :
    goal.write_named_value-returns-in_err-push-2-clause-err
write_named_value-returns-in_err-push-2-clause-err t c =
    stopped _ (front_past _ _ _ _ c.in_ok-push.ensures.ok (front_past _ _ _ _ c.in_ok-write_quoted.ensures.ok (front_same _ _ c.in_err-push-2.ensures.err)))

pub write_named_value-returns-in_err-write_part-clause-err :
    goal.write_named_value-returns-in_err-write_part-clause-err
write_named_value-returns-in_err-write_part-clause-err t c =
    stopped _ (front_past _ _ _ _ c.in_ok-push.ensures.ok (front_past _ _ _ _ c.in_ok-write_quoted.ensures.ok (front_past _ _ _ _ c.in_ok-push-2.ensures.ok c.in_err-write_part.ensures.err)))

pub write_named_value-returns-in_err-push-3-clause-err :
    goal.write_named_value-returns-in_err-push-3-clause-err
write_named_value-returns-in_err-push-3-clause-err t c =
    stopped _ (front_past _ _ _ _ c.in_ok-push.ensures.ok (front_past _ _ _ _ c.in_ok-write_quoted.ensures.ok (front_past _ _ _ _ c.in_ok-push-2.ensures.ok (front_past _ _ _ _ c.in_ok-write_part.ensures.ok (front_same _ _ c.in_err-push-3.ensures.err)))))

pub write_values-returns-in_err-write_part-clause-err :
    goal.write_values-returns-in_err-write_part-clause-err
write_values-returns-in_err-write_part-clause-err t c = stopped _ c.in_err-write_part.ensures.err

pub write_values-returns-in_err-push-clause-err : goal.write_values-returns-in_err-push-clause-err
write_values-returns-in_err-push-clause-err t c =
    stopped _ (front_past _ _ _ _ c.in_ok-write_part.ensures.ok (front_past _ _ _ _ c.loop-value.invariant (front_same _ _ c.in_err-push.ensures.err)))

pub write_values-returns-in_err-write_part-2-clause-err :
    goal.write_values-returns-in_err-write_part-2-clause-err
write_values-returns-in_err-write_part-2-clause-err t c =
    stopped _ (front_past _ _ _ _ c.in_ok-write_part.ensures.ok (front_past _ _ _ _ c.loop-value.invariant (front_past _ _ _ _ c.in_ok-push.ensures.ok c.in_err-write_part-2.ensures.err)))

pub write_named-returns-in_err-write_named_value-clause-err :
    goal.write_named-returns-in_err-write_named_value-clause-err
write_named-returns-in_err-write_named_value-clause-err t c = stopped _ c.in_err-write_named_value.ensures.err

pub write_named-returns-in_err-push-clause-err : goal.write_named-returns-in_err-push-clause-err
write_named-returns-in_err-push-clause-err t c =
    stopped _ (front_past _ _ _ _ c.in_ok-write_named_value.ensures.ok (front_past _ _ _ _ c.loop-name.invariant (front_same _ _ c.in_err-push.ensures.err)))

pub write_named-returns-in_err-write_named_value-2-clause-err :
    goal.write_named-returns-in_err-write_named_value-2-clause-err
write_named-returns-in_err-write_named_value-2-clause-err t c =
    stopped _ (front_past _ _ _ _ c.in_ok-write_named_value.ensures.ok (front_past _ _ _ _ c.loop-name.invariant (front_past _ _ _ _ c.in_ok-push.ensures.ok c.in_err-write_named_value-2.ensures.err)))

pub write_entries-returns-in_err-push-clause-err : goal.write_entries-returns-in_err-push-clause-err
write_entries-returns-in_err-push-clause-err t c = stopped _ (front_same _ _ c.in_err-push.ensures.err)

pub write_entries-returns-in_err-write_part-clause-err :
    goal.write_entries-returns-in_err-write_part-clause-err
write_entries-returns-in_err-write_part-clause-err t c = stopped _ (front_past _ _ _ _ c.in_ok-push.ensures.ok c.in_err-write_part.ensures.err)

pub write_entries-returns-in_err-push-2-clause-err :
    goal.write_entries-returns-in_err-push-2-clause-err
write_entries-returns-in_err-push-2-clause-err t c =
    stopped _ (front_past _ _ _ _ c.in_ok-push.ensures.ok (front_past _ _ _ _ c.in_ok-write_part.ensures.ok (front_same _ _ c.in_err-push-2.ensures.err)))

pub write_entries-returns-in_err-write_part-2-clause-err :
    goal.write_entries-returns-in_err-write_part-2-clause-err
write_entries-returns-in_err-write_part-2-clause-err t c =
    stopped _ (front_past _ _ _ _ c.in_ok-push.ensures.ok (front_past _ _ _ _ c.in_ok-write_part.ensures.ok (front_past _ _ _ _ c.in_ok-push-2.ensures.ok c.in_err-write_part-2.ensures.err)))

pub write_entries-returns-in_err-push-3-clause-err :
    goal.write_entries-returns-in_err-push-3-clause-err
write_entries-returns-in_err-push-3-clause-err t c =
    stopped _ (front_past _ _ _ _ c.in_ok-push.ensures.ok (front_past _ _ _ _ c.in_ok-write_part.ensures.ok (front_past _ _ _ _ c.in_ok-push-2.ensures.ok (front_past _ _ _ _ c.in_ok-write_part-2.ensures.ok (front_same _ _ c.in_err-push-3.ensures.err)))))

pub write_entries-returns-in_err-push_slice-clause-err :
    goal.write_entries-returns-in_err-push_slice-clause-err
write_entries-returns-in_err-push_slice-clause-err t c =
    stopped _ (front_past _ _ _ _ c.in_ok-push.ensures.ok (front_past _ _ _ _ c.in_ok-write_part.ensures.ok (front_past _ _ _ _ c.in_ok-push-2.ensures.ok (front_past _ _ _ _ c.in_ok-write_part-2.ensures.ok (front_past _ _ _ _ c.in_ok-push-3.ensures.ok (front_past _ _ _ _ c.loop-key.invariant (front_same _ _ c.in_err-push_slice.ensures.err)))))))

pub write_entries-returns-in_err-write_part-3-clause-err :
    goal.write_entries-returns-in_err-write_part-3-clause-err
write_entries-returns-in_err-write_part-3-clause-err t c =
    stopped _ (front_past _ _ _ _ c.in_ok-push.ensures.ok (front_past _ _ _ _ c.in_ok-write_part.ensures.ok (front_past _ _ _ _ c.in_ok-push-2.ensures.ok (front_past _ _ _ _ c.in_ok-write_part-2.ensures.ok (front_past _ _ _ _ c.in_ok-push-3.ensures.ok (front_past _ _ _ _ c.loop-key.invariant (front_past _ _ _ _ c.in_ok-push_slice.ensures.ok c.in_err-write_part-3.ensures.err)))))))

pub write_entries-returns-in_err-push-4-clause-err :
    goal.write_entries-returns-in_err-push-4-clause-err
write_entries-returns-in_err-push-4-clause-err t c =
    stopped _ (front_past _ _ _ _ c.in_ok-push.ensures.ok (front_past _ _ _ _ c.in_ok-write_part.ensures.ok (front_past _ _ _ _ c.in_ok-push-2.ensures.ok (front_past _ _ _ _ c.in_ok-write_part-2.ensures.ok (front_past _ _ _ _ c.in_ok-push-3.ensures.ok (front_past _ _ _ _ c.loop-key.invariant (front_past _ _ _ _ c.in_ok-push_slice.ensures.ok (front_past _ _ _ _ c.in_ok-write_part-3.ensures.ok (front_same _ _ c.in_err-push-4.ensures.err)))))))))

pub write_entries-returns-in_err-write_part-4-clause-err :
    goal.write_entries-returns-in_err-write_part-4-clause-err
write_entries-returns-in_err-write_part-4-clause-err t c =
    stopped _ (front_past _ _ _ _ c.in_ok-push.ensures.ok (front_past _ _ _ _ c.in_ok-write_part.ensures.ok (front_past _ _ _ _ c.in_ok-push-2.ensures.ok (front_past _ _ _ _ c.in_ok-write_part-2.ensures.ok (front_past _ _ _ _ c.in_ok-push-3.ensures.ok (front_past _ _ _ _ c.loop-key.invariant (front_past _ _ _ _ c.in_ok-push_slice.ensures.ok (front_past _ _ _ _ c.in_ok-write_part-3.ensures.ok (front_past _ _ _ _ c.in_ok-push-4.ensures.ok c.in_err-write_part-4.ensures.err)))))))))

pub write_entries-returns-in_err-push-5-clause-err :
    goal.write_entries-returns-in_err-push-5-clause-err
write_entries-returns-in_err-push-5-clause-err t c =
    stopped _ (front_past _ _ _ _ c.in_ok-push.ensures.ok (front_past _ _ _ _ c.in_ok-write_part.ensures.ok (front_past _ _ _ _ c.in_ok-push-2.ensures.ok (front_past _ _ _ _ c.in_ok-write_part-2.ensures.ok (front_past _ _ _ _ c.in_ok-push-3.ensures.ok (front_past _ _ _ _ c.loop-key.invariant (front_past _ _ _ _ c.in_ok-push_slice.ensures.ok (front_past _ _ _ _ c.in_ok-write_part-3.ensures.ok (front_past _ _ _ _ c.in_ok-push-4.ensures.ok (front_past _ _ _ _ c.in_ok-write_part-4.ensures.ok (front_same _ _ c.in_err-push-5.ensures.err)))))))))))

pub write_tagged_values-returns-in_err-open_list-clause-err :
    goal.write_tagged_values-returns-in_err-open_list-clause-err
write_tagged_values-returns-in_err-open_list-clause-err t c = stopped _ c.in_err-open_list.ensures.err

pub write_tagged_values-returns-in_err-write_values-clause-err :
    goal.write_tagged_values-returns-in_err-write_values-clause-err
write_tagged_values-returns-in_err-write_values-clause-err t c = stopped _ (front_past _ _ _ _ c.in_ok-open_list.ensures.ok c.in_err-write_values.ensures.err)

pub write_tagged_values-returns-in_err-push_slice-clause-err :
    goal.write_tagged_values-returns-in_err-push_slice-clause-err
write_tagged_values-returns-in_err-push_slice-clause-err t c =
    stopped _ (front_past _ _ _ _ c.in_ok-open_list.ensures.ok (front_past _ _ _ _ c.in_ok-write_values.ensures.ok (front_same _ _ c.in_err-push_slice.ensures.err)))

pub write_part-returns-in_err-push_slice-in-None-clause-err :
    goal.write_part-returns-in_err-push_slice-in-None-clause-err
write_part-returns-in_err-push_slice-in-None-clause-err t c = stopped _ (front_same _ _ c.in_err-push_slice-in-None.ensures.err)

pub write_part-returns-in_err-push_slice-in-Bool-true-clause-err :
    goal.write_part-returns-in_err-push_slice-in-Bool-true-clause-err
write_part-returns-in_err-push_slice-in-Bool-true-clause-err t c = stopped _ (front_same _ _ c.in_err-push_slice-in-Bool-true.ensures.err)

pub write_part-returns-in_err-push_slice-in-Bool-false-clause-err :
    goal.write_part-returns-in_err-push_slice-in-Bool-false-clause-err
write_part-returns-in_err-push_slice-in-Bool-false-clause-err t c = stopped _ (front_same _ _ c.in_err-push_slice-in-Bool-false.ensures.err)

pub write_part-returns-in_err-write_int-in-Int-clause-err :
    goal.write_part-returns-in_err-write_int-in-Int-clause-err
write_part-returns-in_err-write_int-in-Int-clause-err t c = stopped _ (front_same _ _ c.in_err-write_int-in-Int.ensures.err)

pub write_part-returns-in_err-write_tagged-in-Lexeme-clause-err :
    goal.write_part-returns-in_err-write_tagged-in-Lexeme-clause-err
write_part-returns-in_err-write_tagged-in-Lexeme-clause-err t c = stopped _ c.in_err-write_tagged-in-Lexeme.ensures.err

pub write_part-returns-in_err-write_quoted-in-Str-clause-err :
    goal.write_part-returns-in_err-write_quoted-in-Str-clause-err
write_part-returns-in_err-write_quoted-in-Str-clause-err t c = stopped _ (front_same _ _ c.in_err-write_quoted-in-Str.ensures.err)

pub write_part-returns-in_err-write_hex-in-Bytes-clause-err :
    goal.write_part-returns-in_err-write_hex-in-Bytes-clause-err
write_part-returns-in_err-write_hex-in-Bytes-clause-err t c = stopped _ c.in_err-write_hex-in-Bytes.ensures.err

pub write_part-returns-in_err-write_tagged-in-Atom-clause-err :
    goal.write_part-returns-in_err-write_tagged-in-Atom-clause-err
write_part-returns-in_err-write_tagged-in-Atom-clause-err t c = stopped _ c.in_err-write_tagged-in-Atom.ensures.err

pub write_part-returns-in_err-open_list_of-in-Enum-clause-err :
    goal.write_part-returns-in_err-open_list_of-in-Enum-clause-err
write_part-returns-in_err-open_list_of-in-Enum-clause-err t c = stopped _ c.in_err-open_list_of-in-Enum.ensures.err

pub write_part-returns-in_err-write_quoted-in-Enum-clause-err :
    goal.write_part-returns-in_err-write_quoted-in-Enum-clause-err
write_part-returns-in_err-write_quoted-in-Enum-clause-err t c =
    stopped _ (front_past _ _ _ _ c.in_ok-open_list_of-in-Enum.ensures.ok (front_same _ _ c.in_err-write_quoted-in-Enum.ensures.err))

pub write_part-returns-in_err-push-in-Enum-clause-err :
    goal.write_part-returns-in_err-push-in-Enum-clause-err
write_part-returns-in_err-push-in-Enum-clause-err t c =
    stopped _ (front_past _ _ _ _ c.in_ok-open_list_of-in-Enum.ensures.ok (front_past _ _ _ _ c.in_ok-write_quoted-in-Enum.ensures.ok (front_same _ _ c.in_err-push-in-Enum.ensures.err)))

pub write_part-returns-in_err-write_part-in-Enum-clause-err :
    goal.write_part-returns-in_err-write_part-in-Enum-clause-err
write_part-returns-in_err-write_part-in-Enum-clause-err t c =
    stopped _ (front_past _ _ _ _ c.in_ok-open_list_of-in-Enum.ensures.ok (front_past _ _ _ _ c.in_ok-write_quoted-in-Enum.ensures.ok (front_past _ _ _ _ c.in_ok-push-in-Enum.ensures.ok c.in_err-write_part-in-Enum.ensures.err)))

pub write_part-returns-in_err-push_slice-in-Enum-clause-err :
    goal.write_part-returns-in_err-push_slice-in-Enum-clause-err
write_part-returns-in_err-push_slice-in-Enum-clause-err t c =
    stopped _ (front_past _ _ _ _ c.in_ok-open_list_of-in-Enum.ensures.ok (front_past _ _ _ _ c.in_ok-write_quoted-in-Enum.ensures.ok (front_past _ _ _ _ c.in_ok-push-in-Enum.ensures.ok (front_past _ _ _ _ c.in_ok-write_part-in-Enum.ensures.ok (front_same _ _ c.in_err-push_slice-in-Enum.ensures.err)))))

pub write_part-returns-in_err-push-in-List-clause-err :
    goal.write_part-returns-in_err-push-in-List-clause-err
write_part-returns-in_err-push-in-List-clause-err t c = stopped _ (front_same _ _ c.in_err-push-in-List.ensures.err)

pub write_part-returns-in_err-write_values-in-List-clause-err :
    goal.write_part-returns-in_err-write_values-in-List-clause-err
write_part-returns-in_err-write_values-in-List-clause-err t c = stopped _ (front_past _ _ _ _ c.in_ok-push-in-List.ensures.ok c.in_err-write_values-in-List.ensures.err)

pub write_part-returns-in_err-push-in-List-2-clause-err :
    goal.write_part-returns-in_err-push-in-List-2-clause-err
write_part-returns-in_err-push-in-List-2-clause-err t c =
    stopped _ (front_past _ _ _ _ c.in_ok-push-in-List.ensures.ok (front_past _ _ _ _ c.in_ok-write_values-in-List.ensures.ok (front_same _ _ c.in_err-push-in-List-2.ensures.err)))

pub write_part-returns-in_err-write_tagged_values-in-Tuple-clause-err :
    goal.write_part-returns-in_err-write_tagged_values-in-Tuple-clause-err
write_part-returns-in_err-write_tagged_values-in-Tuple-clause-err t c = stopped _ c.in_err-write_tagged_values-in-Tuple.ensures.err

pub write_part-returns-in_err-write_tagged_values-in-Set-clause-err :
    goal.write_part-returns-in_err-write_tagged_values-in-Set-clause-err
write_part-returns-in_err-write_tagged_values-in-Set-clause-err t c = stopped _ c.in_err-write_tagged_values-in-Set.ensures.err

pub write_part-returns-in_err-write_tagged_values-in-Frozen-clause-err :
    goal.write_part-returns-in_err-write_tagged_values-in-Frozen-clause-err
write_part-returns-in_err-write_tagged_values-in-Frozen-clause-err t c = stopped _ c.in_err-write_tagged_values-in-Frozen.ensures.err

pub write_part-returns-in_err-open_list-in-Dict-clause-err :
    goal.write_part-returns-in_err-open_list-in-Dict-clause-err
write_part-returns-in_err-open_list-in-Dict-clause-err t c = stopped _ c.in_err-open_list-in-Dict.ensures.err

pub write_part-returns-in_err-write_entries-in-Dict-clause-err :
    goal.write_part-returns-in_err-write_entries-in-Dict-clause-err
write_part-returns-in_err-write_entries-in-Dict-clause-err t c = stopped _ (front_past _ _ _ _ c.in_ok-open_list-in-Dict.ensures.ok c.in_err-write_entries-in-Dict.ensures.err)

pub write_part-returns-in_err-push_slice-in-Dict-clause-err :
    goal.write_part-returns-in_err-push_slice-in-Dict-clause-err
write_part-returns-in_err-push_slice-in-Dict-clause-err t c =
    stopped _ (front_past _ _ _ _ c.in_ok-open_list-in-Dict.ensures.ok (front_past _ _ _ _ c.in_ok-write_entries-in-Dict.ensures.ok (front_same _ _ c.in_err-push_slice-in-Dict.ensures.err)))

pub write_part-returns-in_err-open_list_of-in-Model-clause-err :
    goal.write_part-returns-in_err-open_list_of-in-Model-clause-err
write_part-returns-in_err-open_list_of-in-Model-clause-err t c = stopped _ c.in_err-open_list_of-in-Model.ensures.err

pub write_part-returns-in_err-push-in-Model-clause-err :
    goal.write_part-returns-in_err-push-in-Model-clause-err
write_part-returns-in_err-push-in-Model-clause-err t c = stopped _ (front_past _ _ _ _ c.in_ok-open_list_of-in-Model.ensures.ok (front_same _ _ c.in_err-push-in-Model.ensures.err))

pub write_part-returns-in_err-write_named-in-Model-clause-err :
    goal.write_part-returns-in_err-write_named-in-Model-clause-err
write_part-returns-in_err-write_named-in-Model-clause-err t c =
    stopped _ (front_past _ _ _ _ c.in_ok-open_list_of-in-Model.ensures.ok (front_past _ _ _ _ c.in_ok-push-in-Model.ensures.ok c.in_err-write_named-in-Model.ensures.err))

pub write_part-returns-in_err-push_slice-in-Model-clause-err :
    goal.write_part-returns-in_err-push_slice-in-Model-clause-err
write_part-returns-in_err-push_slice-in-Model-clause-err t c =
    stopped _ (front_past _ _ _ _ c.in_ok-open_list_of-in-Model.ensures.ok (front_past _ _ _ _ c.in_ok-push-in-Model.ensures.ok (front_past _ _ _ _ c.in_ok-write_named-in-Model.ensures.ok (front_same _ _ c.in_err-push_slice-in-Model.ensures.err))))

pub write_part-returns-in_err-write_names-in-Model-clause-err :
    goal.write_part-returns-in_err-write_names-in-Model-clause-err
write_part-returns-in_err-write_names-in-Model-clause-err t c =
    stopped _ (front_past _ _ _ _ c.in_ok-open_list_of-in-Model.ensures.ok (front_past _ _ _ _ c.in_ok-push-in-Model.ensures.ok (front_past _ _ _ _ c.in_ok-write_named-in-Model.ensures.ok (front_past _ _ _ _ c.in_ok-push_slice-in-Model.ensures.ok c.in_err-write_names-in-Model.ensures.err))))

pub write_part-returns-in_err-push_slice-in-Model-2-clause-err :
    goal.write_part-returns-in_err-push_slice-in-Model-2-clause-err
write_part-returns-in_err-push_slice-in-Model-2-clause-err t c =
    stopped _ (front_past _ _ _ _ c.in_ok-open_list_of-in-Model.ensures.ok (front_past _ _ _ _ c.in_ok-push-in-Model.ensures.ok (front_past _ _ _ _ c.in_ok-write_named-in-Model.ensures.ok (front_past _ _ _ _ c.in_ok-push_slice-in-Model.ensures.ok (front_past _ _ _ _ c.in_ok-write_names-in-Model.ensures.ok (front_same _ _ c.in_err-push_slice-in-Model-2.ensures.err))))))

pub write_part-returns-in_err-write_named-in-Model-2-clause-err :
    goal.write_part-returns-in_err-write_named-in-Model-2-clause-err
write_part-returns-in_err-write_named-in-Model-2-clause-err t c =
    stopped _ (front_past _ _ _ _ c.in_ok-open_list_of-in-Model.ensures.ok (front_past _ _ _ _ c.in_ok-push-in-Model.ensures.ok (front_past _ _ _ _ c.in_ok-write_named-in-Model.ensures.ok (front_past _ _ _ _ c.in_ok-push_slice-in-Model.ensures.ok (front_past _ _ _ _ c.in_ok-write_names-in-Model.ensures.ok (front_past _ _ _ _ c.in_ok-push_slice-in-Model-2.ensures.ok c.in_err-write_named-in-Model-2.ensures.err))))))

pub write_part-returns-in_err-push_slice-in-Model-3-clause-err :
    goal.write_part-returns-in_err-push_slice-in-Model-3-clause-err
write_part-returns-in_err-push_slice-in-Model-3-clause-err t c =
    stopped _ (front_past _ _ _ _ c.in_ok-open_list_of-in-Model.ensures.ok (front_past _ _ _ _ c.in_ok-push-in-Model.ensures.ok (front_past _ _ _ _ c.in_ok-write_named-in-Model.ensures.ok (front_past _ _ _ _ c.in_ok-push_slice-in-Model.ensures.ok (front_past _ _ _ _ c.in_ok-write_names-in-Model.ensures.ok (front_past _ _ _ _ c.in_ok-push_slice-in-Model-2.ensures.ok (front_past _ _ _ _ c.in_ok-write_named-in-Model-2.ensures.ok (front_same _ _ c.in_err-push_slice-in-Model-3.ensures.err))))))))

pub write_part-returns-in_err-open_list_of-in-Root-clause-err :
    goal.write_part-returns-in_err-open_list_of-in-Root-clause-err
write_part-returns-in_err-open_list_of-in-Root-clause-err t c = stopped _ c.in_err-open_list_of-in-Root.ensures.err

pub write_part-returns-in_err-write_part-in-Root-clause-err :
    goal.write_part-returns-in_err-write_part-in-Root-clause-err
write_part-returns-in_err-write_part-in-Root-clause-err t c = stopped _ (front_past _ _ _ _ c.in_ok-open_list_of-in-Root.ensures.ok c.in_err-write_part-in-Root.ensures.err)

pub write_part-returns-in_err-push_slice-in-Root-clause-err :
    goal.write_part-returns-in_err-push_slice-in-Root-clause-err
write_part-returns-in_err-push_slice-in-Root-clause-err t c =
    stopped _ (front_past _ _ _ _ c.in_ok-open_list_of-in-Root.ensures.ok (front_past _ _ _ _ c.in_ok-write_part-in-Root.ensures.ok (front_same _ _ c.in_err-push_slice-in-Root.ensures.err)))
