-- What a node asks for is allowed, by its type, where nothing is wrong with the node.
use Rattle.std.proofs.Common.{◌≡◌, ℕ, ◌<◌, true, false, Bool, List, [], ◌∷◌, ◌++◌, length, Option, None, Some, is_some, option_map, flat_map, refl, ap, sym, ◌∙◌, subst, ltb-true, IsTrue}
use Rattle.std.proofs.lemmas.Bool.{false≢true}
use Rattle.std.proofs.lemmas.List.{length-map}
use Rattle.std.proofs.lemmas.Grind.{flat_map-append}
use Rattle.std.specs.List.{AllByRecursion}
use Rattle.std.specs.Option.{IfSome}
use Rattle.pv_tree.specs.declared.Tree.{Tree, out-Tree}
use Rattle.pv_rules.specs.declared.FieldsKind.{FieldsKind}
use Rattle.pv_rules.specs.declared.FieldsKind.TheVariants as fields
use Rattle.pv_rules.specs.declared.OnError.{OnError}
use Rattle.pv_rules.specs.declared.Settings.{Settings}
use Rattle.std.specs.Prelude.{codes, not, ◌&&◌, ◌||◌, unwrap_or, IfOk}
use Rattle.pv_schema.proofs.AllowedFields.{are_fields, nodes_are}
use Rattle.pv_rules.specs.declared.SubType.{SubType}
use Rattle.pv_rules.specs.declared.EnumMember.{EnumMember}
use Rattle.pv_rules.specs.declared.Collection.{Collection}
use Rattle.pv_rules.specs.declared.Collection.TheVariants as collection
use Rattle.pv_rules.specs.declared.ScalarRule.{ScalarRule}
use Rattle.pv_rules.specs.declared.ScalarRule.TheVariants as rule
use Rattle.pv_node.specs.declared.Node.{Node, roll-Node, out-roll-Node}
use Rattle.pv_node.specs.declared.Body.{Body, out-Body, roll-Body, out-roll-Body}
use Rattle.pv_node.specs.declared.Body.TheVariants as body
use Rattle.pv_node.specs.declared.Body.TheVariants.{rolls-Scalar, rolls-Sequence, rolls-Tuple, rolls-Dict, rolls-Nullable, rolls-Fields, rolls-Model, rolls-Default, rolls-Union, rolls-TaggedUnion, rolls-LaxOrStrict, rolls-JsonOrPython, rolls-CustomError, rolls-Before, rolls-After, rolls-Wrap, rolls-Plain, rolls-Definitions, rolls-DefinitionRef}
use Rattle.pv_node.specs.declared.Body.TheOpen.{Body-F}
use Rattle.pv_node.specs.Places.{slots, position_path, choice_path, tag_path}
use Rattle.pv_node.specs.declared.Edge.TheVariants.{Enters, Stays, Absent}
use Rattle.pv_node.specs.Preorder.{preorder, optional, written}
use Rattle.pv_node.proofs.Written.{listed_written}
use Rattle.pv_node.proofs.Preorder.{preorder_opens}
use Rattle.std.proofs.lemmas.List.{append-nil}
use Rattle.pv_tree.specs.Parts.{items_at}
use Rattle.pv_node.specs.Absent.{or_any}
use Rattle.pv_schema_values.specs.Values.{is_false, flag_of, text_of, extra_behavior_of, is_value, literals_of, members_of, count_of, sub_type_of, alias_of, union_mode_of}
use Rattle.pv_schema_values.specs.declared.ValueKind.{ValueKind}
use Rattle.pv_schema_values.specs.declared.ValueKind.TheVariants as value
use Rattle.pv_schema_check.specs.Find.{find, itself, tree_at}
use Rattle.pv_schema_check.specs.ObjectTypes.{where_built}
use Rattle.pv_schema_table.specs.Keys.{text}
use Rattle.pv_schema_table.specs.Table.{ObjectRow, TypeRow, keys, kind_under, node_types, field_types, config, config_test, enum_test, tuple_test}
use Rattle.pv_schema_check.specs.Checking.{is_absent, misfit, misfits, fits, is_below, are_of, items_size, size_of}
use Rattle.pv_schema.specs.Making.{made, nodes_in, body_in, part_at, node_made, fields_body, union_body, tagged_body, field_in}
use Rattle.pv_schema.specs.Choices.{choice_schemas, tag_rule, tagged_schemas, union_rule}
use Rattle.pv_schema.proofs.AllowedChoices.{is_union, schemas_are, is_tagged, tagged_are}
use Rattle.pv_schema.specs.Written.{or_empty, read, flag_or}
use Rattle.pv_schema.specs.Fields.{fields_rule, field_schemas}
use Rattle.pv_schema.specs.Configs.{settings, titled}
use Rattle.pv_schema.specs.NodeRules.{gather_rule, tuple_rule, enum_rule, func_rule}
use Rattle.pv_rules.specs.Allowed.{HasItems, IsAllowedRule, IsSequence, IsEnum, AreBounds, HasNoPositions, AreSettings}
use Rattle.pv_rules.specs.Members.{all_are_of}
use Rattle.pv_node.specs.Allowed.{IsAllowed, IsAllowedBody, IsNamed}
use Rattle.pv_schema_table.specs.declared.Kind.TheVariants as kind
use Rattle.pv_schema_table.specs.declared.Key.{Key}
use Rattle.pv_schema_table.specs.declared.Key.TheVariants as key
use Rattle.pv_schema_table.specs.declared.Test.{Test}
use Rattle.pv_schema_table.specs.declared.Fit.TheVariants as fit
use Rattle.pv_schema_table.specs.declared.Makes.{Makes}
use Rattle.pv_schema_table.specs.declared.Makes.TheVariants as makes
use Rattle.pv_schema_table.specs.declared.NodeType.{NodeType}
use Rattle.pv_schema_table.specs.declared.NodeType.TheVariants as node
use Rattle.pv_schema.proofs.MakeOpens.{nodes_open}
use Rattle.pv_schema.proofs.AllowedValues.{AreMembers, or_empty_is, counts, versions, positives, texts, literals, members, aliases}
use Rattle.pv_schema.proofs.AllowedKeys.{IsRight, IsAllowedField, fields_right, choices_right, tagged_right, definitions_right, config_right, right, both_empty, each_append, is_there, shown, shown_there, schema_right, schemas_right, value_right, is_text, is_literals, is_members, is_alias}

-- the nodes of some schemas are allowed
abbrev AreAllAllowed : List Node → Type 0
AreAllAllowed ns = AllByRecursion IsAllowed (flat_map preorder ns)

-- what a node asks for is allowed, and so are the nodes inside
abbrev pub IsWhole : Body-F Body Node → Type 0
IsWhole b = IsAllowedBody b × AllByRecursion IsAllowed (flat_map preorder (written (slots b)))

rolled : (b : Body) (x : Body-F Body Node) → roll-Body x ≡ b → IsWhole x → IsWhole (out-Body b)
rolled b x e = subst IsWhole (sym (ap out-Body (sym e) ∙ out-roll-Body x))

scalar : (r : ScalarRule) → IsAllowedRule r → IsWhole (out-Body (body.Scalar r))
scalar r h = rolled (body.Scalar r) (Body-F.Scalar r) (rolls-Scalar r) (h, tt)

-- the variadic position is one of the positions
below_is : (o : Option ℕ) (n : ℕ) → is_below o n ≡ true → IfSome o (λ v. v < n)
below_is None n e = tt
below_is (Some v) n e = ltb-true v n e

list_counted : (o : Option (List Tree)) → length (nodes_in itself made (or_empty o)) ≡ size_of o
list_counted None = refl
list_counted (Some ts) = length-map ts (λ t. made t kind.Schema)

counted : (t : Tree) → length (made t kind.Schemas) ≡ items_size t
counted t = ap length (nodes_open t) ∙ list_counted (items_at (out-Tree t))

fits_place : (t u : Tree) → fits fit.PlaceInList t u ≡ true → is_below (count_of t) (items_size u) ≡ true
unfolding fits
fits_place t u e = e

fits_members : (t u : Tree) → fits fit.OfSubType t u ≡ true → are_of (sub_type_of t) (members_of u) ≡ true
unfolding fits
fits_members t u e = e

-- what a test says, where it finds nothing wrong
tested : (at : Key → Option Tree) (test : Test) → misfits at (test ∷ []) ≡ [] → misfit test (at test.key) (at test.other) ≡ []
tested at test e = (both_empty _ [] e).0

place_is : (place items : Option Tree) → is_some items ≡ true → misfit tuple_test (option_map itself place) (option_map itself items) ≡ []
    → IfSome (read count_of (option_map itself place)) (λ v. v < length (or_empty (option_map (λ t. made t kind.Schemas) items)))
place_is None items there e = tt
place_is (Some x) None there e = absurd (false≢true there)
place_is (Some x) (Some y) there e =
    below_is (count_of x) (length (made y kind.Schemas))
    (ap (is_below (count_of x)) (counted y) ∙ fits_place x y (right (fits fit.PlaceInList x y) _ e))

-- the members are of the sub type
all_are : (s : Option SubType) (o : Option (List EnumMember)) → is_some o ≡ true → are_of s o ≡ true → IfSome s (λ x. IsTrue (all_are_of x (or_empty o)))
all_are None o there e = tt
all_are (Some s) None there e = absurd (false≢true there)
all_are (Some s) (Some ms) there e = e

sub_type_is : (s ms : Option Tree) → is_some (read members_of ms) ≡ true → misfit enum_test s ms ≡ []
    → IfSome (read sub_type_of s) (λ x. IsTrue (all_are_of x (or_empty (read members_of ms))))
sub_type_is None ms there e = tt
sub_type_is (Some x) None there e = absurd (false≢true there)
sub_type_is (Some x) (Some y) there e =
    all_are (sub_type_of x) (members_of y) there (fits_members x y (right (fits fit.OfSubType x y) _ e))

-- nothing is wrong with the members of an object, and with what is made of them
pub record IsClean (o : ObjectRow) (ms : List (List ℕ × Tree)) : Type 0 where
  pub under : (k : Key) → IfSome (find (text k) ms) (IsRight (kind_under o (text k)))
  pub none_absent : AllByRecursion (λ r. is_absent (tree_at itself ms) r ≡ false) (keys o)
  pub fits : misfits (tree_at itself ms) o.tests ≡ []

inner_is : (o : Option Tree) → is_some o ≡ true → IfSome o (IsRight (Some kind.Schema)) → AllByRecursion IsAllowed (preorder (or_any (option_map (λ t. made t kind.Schema) o)))
inner_is None there h = absurd (false≢true there)
inner_is (Some t) there h = h.1 kind.Schema h.0

abbrev with_body : Option (List ℕ) → Option Bool → Body → Node
with_body own strict b = roll-Node (record { own_ref = own; strict = strict; body = b })

node_is : (own : Option (List ℕ)) (strict : Option Bool) (b : Body) → IsWhole (out-Body b) → AllByRecursion IsAllowed (preorder (with_body own strict b))
node_is own strict b h =
    subst (AllByRecursion IsAllowed) (sym (preorder_opens (with_body own strict b)))
    (subst IsWhole (sym (ap (λ n. out-Body n.body) (out-roll-Node (record { own_ref = own; strict = strict; body = b })))) h)

name_is : (own : Option (List ℕ)) (strict : Option Bool) (b : Body) → is_some own ≡ true → IsNamed (with_body own strict b)
name_is own strict b h =
    subst IsTrue (sym (ap (λ n. is_some n.own_ref) (out-roll-Node (record { own_ref = own; strict = strict; body = b })))) h

module _ (ms : List (List ℕ × Tree)) where
  abbrev at : Key → Option Tree
  at k = tree_at itself ms k

  -- what stands under a key
  abbrev under : Key → Option Tree
  under k = find (text k) ms

  abbrev node_at : Key → Option Node
  node_at k = part_at itself made ms kind.Schema k

  abbrev nodes_at : Key → List Node
  nodes_at k = or_empty (part_at itself made ms kind.Schemas k)

  bounds : AreBounds (read count_of (at key.MinLength)) (read count_of (at key.MaxLength))
  bounds = record { least_is_count = counts (at key.MinLength); most_is_count = counts (at key.MaxLength) }

  no_positions : (c : Collection) → HasNoPositions (gather_rule at c)
  no_positions c = record { positions = refl; variadic = refl; bounds = bounds }

  sequence : (c : Collection) → IsSequence c → IfSome (under key.ItemsSchema) (IsRight (Some kind.Schema))
      → IsWhole (out-Body (body.Sequence (gather_rule at c) (node_at key.ItemsSchema)))
  sequence c is h =
      rolled _ (Body-F.Sequence (gather_rule at c) (node_at key.ItemsSchema)) (rolls-Sequence (gather_rule at c) (node_at key.ItemsSchema))
      ((is, no_positions c), subst AreAllAllowed (sym (append-nil (optional (node_at key.ItemsSchema)))) (schema_right (under key.ItemsSchema) h))

  tuple : is_some (under key.ItemsSchema) ≡ true → IfSome (under key.ItemsSchema) (IsRight (Some kind.Schemas))
      → misfits at (tuple_test ∷ []) ≡ []
      → IsWhole (out-Body (body.Tuple (tuple_rule at (length (nodes_at key.ItemsSchema))) (nodes_at key.ItemsSchema)))
  tuple there h e =
      let positions = nodes_at key.ItemsSchema in
      rolled _ (Body-F.Tuple (tuple_rule at (length positions)) positions) (rolls-Tuple (tuple_rule at (length positions)) positions) (
        record {
          kind = refl;
          positions = refl;
          variadic = place_is (under key.VariadicItemIndex) (under key.ItemsSchema) there (tested at tuple_test e);
          bounds = bounds;
        },
        subst AreAllAllowed (sym (listed_written (position_path (codes "items_schema")) Enters 0 positions)) (schemas_right (under key.ItemsSchema) h),
      )

  dict : IfSome (under key.KeysSchema) (IsRight (Some kind.Schema)) → IfSome (under key.ValuesSchema) (IsRight (Some kind.Schema))
      → IsWhole (out-Body (body.Dict (gather_rule at collection.Dict) (node_at key.KeysSchema) (node_at key.ValuesSchema)))
  dict h k =
      let keys = node_at key.KeysSchema in
      let values = node_at key.ValuesSchema in
      rolled _ (Body-F.Dict (gather_rule at collection.Dict) keys values) (rolls-Dict (gather_rule at collection.Dict) keys values) (
        (refl, no_positions collection.Dict),
        subst (λ ns. AreAllAllowed (optional keys ++ ns)) (sym (append-nil (optional values)))
            (subst (AllByRecursion IsAllowed) (sym (flat_map-append preorder (optional keys) (optional values)))
            (each_append IsAllowed _ _ (schema_right (under key.KeysSchema) h) (schema_right (under key.ValuesSchema) k))),
      )

  nullable : (o : Option Tree) → is_some o ≡ true → IfSome o (IsRight (Some kind.Schema))
      → IsWhole (out-Body (body.Nullable (or_any (option_map (λ t. made t kind.Schema) o))))
  nullable None there h = absurd (false≢true there)
  nullable (Some t) there h = rolled _ (Body-F.Nullable (made t kind.Schema)) (rolls-Nullable (made t kind.Schema)) (tt, schema_right (Some t) h)

  -- the schema under a key that has to be there
  needed : (k : Key) → is_some (under k) ≡ true → IfSome (under k) (IsRight (Some kind.Schema)) → AllByRecursion IsAllowed (preorder (or_any (node_at k)))
  needed k there h = inner_is (under k) there h

  -- the nodes of one such schema
  only : (k : Key) → is_some (under k) ≡ true → IfSome (under k) (IsRight (Some kind.Schema)) → AreAllAllowed (or_any (node_at k) ∷ [])
  only k there h = each_append IsAllowed (preorder (or_any (node_at k))) [] (needed k there h) tt

  default : (t : Tree) (validate : Option Bool) (e : OnError) → is_some (under key.Schema) ≡ true → IfSome (under key.Schema) (IsRight (Some kind.Schema))
      → IsWhole (out-Body (body.Default t validate e (or_any (node_at key.Schema))))
  default t validate e there h =
      rolled _ (Body-F.Default t validate e (or_any (node_at key.Schema))) (rolls-Default t validate e (or_any (node_at key.Schema)))
      (tt, only key.Schema there h)

  lax_or_strict : is_some (under key.LaxSchema) ≡ true → IfSome (under key.LaxSchema) (IsRight (Some kind.Schema))
      → is_some (under key.StrictSchema) ≡ true → IfSome (under key.StrictSchema) (IsRight (Some kind.Schema))
      → IsWhole (out-Body (body.LaxOrStrict (or_any (node_at key.LaxSchema)) (or_any (node_at key.StrictSchema))))
  lax_or_strict a h b k =
      let lax = or_any (node_at key.LaxSchema) in
      let strict = or_any (node_at key.StrictSchema) in
      rolled _ (Body-F.LaxOrStrict lax strict) (rolls-LaxOrStrict lax strict)
      (tt, each_append IsAllowed (preorder lax) (flat_map preorder (strict ∷ [])) (needed key.LaxSchema a h) (only key.StrictSchema b k))

  json_or_python : is_some (under key.JsonSchema) ≡ true → IfSome (under key.JsonSchema) (IsRight (Some kind.Schema))
      → IsWhole (out-Body (body.JsonOrPython (or_any (node_at key.JsonSchema))))
  json_or_python there h =
      rolled _ (Body-F.JsonOrPython (or_any (node_at key.JsonSchema))) (rolls-JsonOrPython (or_any (node_at key.JsonSchema)))
      (tt, only key.JsonSchema there h)

  custom_error : (error_type message : List ℕ) → is_some (under key.Schema) ≡ true → IfSome (under key.Schema) (IsRight (Some kind.Schema))
      → IsWhole (out-Body (body.CustomError error_type message (or_any (node_at key.Schema))))
  custom_error error_type message there h =
      rolled _ (Body-F.CustomError error_type message (or_any (node_at key.Schema))) (rolls-CustomError error_type message (or_any (node_at key.Schema)))
      (tt, only key.Schema there h)

  before : is_some (under key.Schema) ≡ true → IfSome (under key.Schema) (IsRight (Some kind.Schema))
      → IsWhole (out-Body (body.Before (func_rule at) (or_any (node_at key.Schema))))
  before there h =
      rolled _ (Body-F.Before (func_rule at) (or_any (node_at key.Schema))) (rolls-Before (func_rule at) (or_any (node_at key.Schema)))
      (tt, only key.Schema there h)

  after : is_some (under key.Schema) ≡ true → IfSome (under key.Schema) (IsRight (Some kind.Schema))
      → IsWhole (out-Body (body.After (func_rule at) (or_any (node_at key.Schema))))
  after there h =
      rolled _ (Body-F.After (func_rule at) (or_any (node_at key.Schema))) (rolls-After (func_rule at) (or_any (node_at key.Schema)))
      (tt, only key.Schema there h)

  wrap : is_some (under key.Schema) ≡ true → IfSome (under key.Schema) (IsRight (Some kind.Schema))
      → IsWhole (out-Body (body.Wrap (func_rule at) (or_any (node_at key.Schema))))
  wrap there h =
      rolled _ (Body-F.Wrap (func_rule at) (or_any (node_at key.Schema))) (rolls-Wrap (func_rule at) (or_any (node_at key.Schema)))
      (tt, only key.Schema there h)

  plain : IsWhole (out-Body (body.Plain (func_rule at)))
  plain = rolled _ (Body-F.Plain (func_rule at)) (rolls-Plain (func_rule at)) (tt, tt)

  union : is_some (under key.Choices) ≡ true → IfSome (under key.Choices) (IsRight (Some kind.Choices))
      → IsWhole (out-Body (union_body at (part_at itself made ms) (or_empty (part_at itself made ms kind.Choices key.Choices))))
  union there h =
      let cs = or_empty (part_at itself made ms kind.Choices key.Choices) in
      let rule = union_rule (read union_mode_of (at key.Mode)) cs in
      let right = choices_right (under key.Choices) there h in
      rolled _ (Body-F.Union rule (choice_schemas cs)) (rolls-Union rule (choice_schemas cs)) (
        is_union (read union_mode_of (at key.Mode)) cs right,
        subst AreAllAllowed (sym (listed_written (choice_path rule.labels) Stays 0 (choice_schemas cs))) (schemas_are cs right.each),
      )

  abbrev configured : Option Settings
  configured = option_map (titled (read text_of (at key.Cls))) (part_at itself made ms kind.Config key.Config)

  model : (cls : List ℕ) (root : Bool) → is_some (under key.Schema) ≡ true → IfSome (under key.Schema) (IsRight (Some kind.Schema))
      → IfSome (under key.Config) (IsRight (Some kind.Config))
      → IsWhole (out-Body (body.Model cls root configured (or_any (node_at key.Schema))))
  model cls root there h c =
      rolled _ (Body-F.Model cls root configured (or_any (node_at key.Schema))) (rolls-Model cls root configured (or_any (node_at key.Schema)))
      (config_right (read text_of (at key.Cls)) (under key.Config) c, only key.Schema there h)

  with_fields : (k : FieldsKind) (total : Option Bool) (config : Option Settings) (cls : Option (List ℕ))
      → IfSome (under key.Fields) (IsRight (Some (kind.Fields k))) → IfSome (under key.ExtrasSchema) (IsRight (Some kind.Schema))
      → IfSome config AreSettings → (k ≡ fields.Model → (config ≡ None) × (cls ≡ None))
      → IsWhole (out-Body (fields_body at (part_at itself made ms) k total (or_empty (part_at itself made ms (kind.Fields k) key.Fields)) config cls))
  with_fields k total config cls f x settings of_model =
      let fs = or_empty (part_at itself made ms (kind.Fields k) key.Fields) in
      let rule = fields_rule k total (read extra_behavior_of (at key.ExtraBehavior)) fs in
      let right = fields_right k (under key.Fields) f in
      rolled _ (Body-F.Fields rule (field_schemas fs) (node_at key.ExtrasSchema) config cls)
      (rolls-Fields rule (field_schemas fs) (node_at key.ExtrasSchema) config cls) (
        are_fields k total (read extra_behavior_of (at key.ExtraBehavior)) fs config cls right settings of_model,
        nodes_are rule.fields fs (node_at key.ExtrasSchema) right (schema_right (under key.ExtrasSchema) x),
      )

  -- a value that has to be there
  value_at : {Y : Type 0} (k : Key) (v : ValueKind) (f : Tree → Option Y) → ((t : Tree) → is_value v t ≡ is_some (f t))
      → is_some (under k) ≡ true → IfSome (under k) (IsRight (Some (kind.Value v))) → is_some (read f (at k)) ≡ true
  value_at k v f same there h = value_right v f same (at k) (shown_there (under k) there) (shown (IsRight (Some (kind.Value v))) (under k) h)

  tagged_union : is_some (under key.Choices) ≡ true → IfSome (under key.Choices) (IsRight (Some kind.Tagged))
      → is_some (under key.Discriminator) ≡ true → IfSome (under key.Discriminator) (IsRight (Some (kind.Value value.Alias)))
      → IsWhole (out-Body (tagged_body at (part_at itself made ms) (or_empty (part_at itself made ms kind.Tagged key.Choices))))
  tagged_union there h is k =
      let cs = or_empty (part_at itself made ms kind.Tagged key.Choices) in
      let alias = read alias_of (at key.Discriminator) in
      let rule = tag_rule alias cs in
      let right = tagged_right (under key.Choices) there h in
      rolled _ (Body-F.TaggedUnion rule (tagged_schemas cs)) (rolls-TaggedUnion rule (tagged_schemas cs)) (
        is_tagged alias cs right (value_at key.Discriminator value.Alias alias_of is_alias is k) (aliases (at key.Discriminator)),
        subst AreAllAllowed (sym (listed_written (tag_path rule.tags) Stays 0 (tagged_schemas cs))) (tagged_are cs right.each),
      )

  definitions : is_some (under key.Schema) ≡ true → IfSome (under key.Schema) (IsRight (Some kind.Schema))
      → IfSome (under key.Definitions) (IsRight (Some kind.Definitions))
      → IsWhole (out-Body (body.Definitions (or_any (node_at key.Schema)) (or_empty (part_at itself made ms kind.Definitions key.Definitions))))
  definitions there h k =
      let inner = or_any (node_at key.Schema) in
      let ns = or_empty (part_at itself made ms kind.Definitions key.Definitions) in
      let right = definitions_right (under key.Definitions) k in
      rolled _ (Body-F.Definitions inner ns) (rolls-Definitions inner ns) (
        right.named,
        subst (λ all. AreAllAllowed (inner ∷ all)) (sym (listed_written (position_path (codes "definitions")) Absent 0 ns))
            (each_append IsAllowed (preorder inner) (flat_map preorder ns) (needed key.Schema there h) right.each),
      )

  definition_ref : (name : List ℕ) → IsWhole (out-Body (body.DefinitionRef name))
  definition_ref name = rolled _ (Body-F.DefinitionRef name) (rolls-DefinitionRef name) (tt, tt)

  -- a node of a type, where a name is written
  named : (n : NodeType) → is_some (under key.Ref) ≡ true → IfSome (under key.Ref) (IsRight (Some (kind.Value value.Text)))
      → IsNamed (node_made at (part_at itself made ms) (makes.Node n))
  named n there h =
      name_is (read text_of (at key.Ref)) (read flag_of (at key.Strict)) (body_in itself made ms n)
      (value_at key.Ref value.Text text_of is_text there h)

  enum : is_some (under key.Members) ≡ true → IfSome (under key.Members) (IsRight (Some (kind.Value value.Members)))
      → misfits at (enum_test ∷ []) ≡ [] → IsEnum (enum_rule at)
  enum there h e =
      let listed = value_at key.Members value.Members members_of is_members there h in
      let right = or_empty_is AreMembers (read members_of (at key.Members)) listed (members (at key.Members)) in
      record {
        has_members = right.has_members;
        are_distinct = right.are_distinct;
        are_values = right.are_values;
        are_of_sub_type = sub_type_is (at key.SubType) (at key.Members) listed (tested at enum_test e);
      }

  literal : is_some (under key.Expected) ≡ true → IfSome (under key.Expected) (IsRight (Some (kind.Value value.Literals)))
      → HasItems (or_empty (read literals_of (at key.Expected)))
  literal there h =
      or_empty_is HasItems (read literals_of (at key.Expected)) (value_at key.Expected value.Literals literals_of is_literals there h)
      (literals (at key.Expected))

-- an object in which nothing is wrong is allowed, by the row of its type
abbrev pub IsMadeRight : TypeRow → Type 0
IsMadeRight row = (ms : List (List ℕ × Tree)) → IsClean row.object ms
    → AllByRecursion IsAllowed (preorder (node_made (tree_at itself ms) (part_at itself made ms) row.makes))

made_by : (ms : List (List ℕ × Tree)) (n : NodeType) → IsWhole (out-Body (body_in itself made ms n))
    → AllByRecursion IsAllowed (preorder (node_made (tree_at itself ms) (part_at itself made ms) (makes.Node n)))
made_by ms n h = node_is _ _ (body_in itself made ms n) h

-- a typed dict is no model
no_model : (settings : Option Settings) (cls : Option (List ℕ)) → fields.TypedDict ≡ fields.Model → (settings ≡ None) × (cls ≡ None)
no_model settings cls e = cc

-- each row of the table
pub rows_are : AllByRecursion IsMadeRight node_types
unfolding kind_under
rows_are = (
  λ ms c. made_by ms node.Any (scalar rule.Any tt),
  (
    λ ms c. made_by ms node.None (scalar rule.None tt),
    (
      λ ms c. made_by ms node.Bool (scalar rule.Bool tt),
      (
        λ ms c. made_by ms node.Int (scalar _ (positives (at ms key.MultipleOf))),
        (
          λ ms c. made_by ms node.Str (scalar _ (bounds ms)),
          (
            λ ms c. made_by ms node.Bytes (scalar _ (bounds ms)),
            (
              λ ms c. made_by ms node.Uuid (scalar _ (versions (at ms key.Version))),
              (
                λ ms c. made_by ms node.Url (scalar _ (counts (at ms key.MaxLength), texts (at ms key.AllowedSchemes))),
                (
                  λ ms c. made_by ms node.Literal (scalar _ (literal ms (is_there _ c.none_absent.1.1.1.1.1.0) (c.under key.Expected))),
                  (
                    λ ms c. made_by ms node.Enum (scalar _ (enum ms (is_there _ c.none_absent.1.1.1.1.1.1.0) (c.under key.Members) c.fits)),
                    (
                      λ ms c. made_by ms node.List (sequence ms collection.List tt (c.under key.ItemsSchema)),
                      (
                        λ ms c. made_by ms node.Set (sequence ms collection.Set tt (c.under key.ItemsSchema)),
                        (
                          λ ms c. made_by ms node.Frozen (sequence ms collection.Frozen tt (c.under key.ItemsSchema)),
                          (
                            λ ms c. made_by ms node.Tuple (tuple ms (is_there _ c.none_absent.1.1.1.1.1.0) (c.under key.ItemsSchema) c.fits),
                            (
                              λ ms c. made_by ms node.Dict (dict ms (c.under key.KeysSchema) (c.under key.ValuesSchema)),
                              (
                                λ ms c. made_by ms node.Nullable (nullable ms (under ms key.Schema) (is_there _ c.none_absent.1.1.1.1.1.0) (c.under key.Schema)),
                                (
                                  λ ms c. made_by ms node.Default (default ms _ _ _ (is_there _ c.none_absent.1.1.1.1.1.0) (c.under key.Schema)),
                                  (
                                    λ ms c. made_by ms node.ModelFields (with_fields ms fields.Model None None None (c.under key.Fields) (c.under key.ExtrasSchema) tt (λ e. (refl, refl))),
                                    (
                                      λ ms c. made_by ms node.TypedDict (with_fields ms fields.TypedDict (read flag_of (at ms key.Total)) (configured ms) (read text_of (at ms key.Cls)) (c.under key.Fields) (c.under key.ExtrasSchema) (config_right (read text_of (at ms key.Cls)) (under ms key.Config) (c.under key.Config)) (no_model _ _)),
                                      (
                                        λ ms c. made_by ms node.Model (model ms _ _ (is_there _ c.none_absent.1.1.1.1.1.1.0) (c.under key.Schema) (c.under key.Config)),
                                        (
                                          λ ms c. made_by ms node.Union (union ms (is_there _ c.none_absent.1.1.1.1.1.0) (c.under key.Choices)),
                                          (
                                            λ ms c. made_by ms node.TaggedUnion (tagged_union ms (is_there _ c.none_absent.1.1.1.1.1.0) (c.under key.Choices) (is_there _ c.none_absent.1.1.1.1.1.1.0) (c.under key.Discriminator)),
                                            (
                                              λ ms c. made_by ms node.LaxOrStrict (lax_or_strict ms (is_there _ c.none_absent.1.1.1.1.1.0) (c.under key.LaxSchema) (is_there _ c.none_absent.1.1.1.1.1.1.0) (c.under key.StrictSchema)),
                                              (
                                                λ ms c. made_by ms node.JsonOrPython (json_or_python ms (is_there _ c.none_absent.1.1.1.1.1.0) (c.under key.JsonSchema)),
                                                (
                                                  λ ms c. made_by ms node.CustomError (custom_error ms _ _ (is_there _ c.none_absent.1.1.1.1.1.0) (c.under key.Schema)),
                                                  (
                                                    λ ms c. made_by ms node.Before (before ms (is_there _ c.none_absent.1.1.1.1.1.1.0) (c.under key.Schema)),
                                                    (
                                                      λ ms c. made_by ms node.After (after ms (is_there _ c.none_absent.1.1.1.1.1.1.0) (c.under key.Schema)),
                                                      (
                                                        λ ms c. made_by ms node.Wrap (wrap ms (is_there _ c.none_absent.1.1.1.1.1.1.0) (c.under key.Schema)),
                                                        (
                                                          λ ms c. made_by ms node.Plain (plain ms),
                                                          (
                                                            λ ms c. made_by ms node.Definitions (definitions ms (is_there _ c.none_absent.1.1.1.1.1.0) (c.under key.Schema) (c.under key.Definitions)),
                                                            (
                                                              λ ms c. made_by ms node.DefinitionRef (definition_ref ms (or_empty (read text_of (at ms key.SchemaRef)))),
                                                              tt,
                                                            ),
                                                          ),
                                                        ),
                                                      ),
                                                    ),
                                                  ),
                                                ),
                                              ),
                                            ),
                                          ),
                                        ),
                                      ),
                                    ),
                                  ),
                                ),
                              ),
                            ),
                          ),
                        ),
                      ),
                    ),
                  ),
                ),
              ),
            ),
          ),
        ),
      ),
    ),
  ),
)

-- the objects of a type of nodes take a text as their name
abbrev pub TakesName : Makes → ObjectRow → Type 0
TakesName makes.NotBuilt o = Unit {0}
TakesName (makes.Node n) o = kind_under o (text key.Ref) ≡ Some (kind.Value value.Text)
TakesName makes.Field o = ⊥

-- what is made of an object in which nothing is wrong has a name where one is written
abbrev pub IsMadeNamed : TypeRow → Type 0
IsMadeNamed row = (ms : List (List ℕ × Tree)) → IsClean row.object ms → is_some (under ms key.Ref) ≡ true
    → IsNamed (node_made (tree_at itself ms) (part_at itself made ms) row.makes)

built_named : (m : Makes) (row : TypeRow) → m ≡ row.makes → TakesName m row.object → IfOk (where_built m row) IsMadeNamed
built_named makes.NotBuilt row e h = tt
built_named (makes.Node n) row e h =
    λ ms c there. subst (λ m. IsNamed (node_made (tree_at itself ms) (part_at itself made ms) m)) e
    (named ms n there (subst (λ k. IfSome (under ms key.Ref) (IsRight k)) h (c.under key.Ref)))
built_named makes.Field row e h = absurd h

-- a row whose type is built
pub row_named : (row : TypeRow) → TakesName row.makes row.object → IfOk (where_built row.makes row) IsMadeNamed
row_named row h = built_named row.makes row refl h

-- each row of the table
pub rows_take_names : AllByRecursion (λ row. TakesName row.makes row.object) node_types
unfolding kind_under
rows_take_names =
    (refl, (refl, (refl, (refl, (refl, (refl, (refl, (refl, (refl, (refl, (refl, (refl, (refl, (refl, (refl, (refl, (refl, (refl, (refl, (refl, (refl, (refl, (refl, (refl, (refl, (refl, (refl, (refl, (refl, (refl, (refl, tt)))))))))))))))))))))))))))))))

-- a field in which nothing is wrong, by the row of its type
abbrev pub IsFieldRight : TypeRow → Type 0
IsFieldRight row = (ms : List (List ℕ × Tree)) → IsClean row.object ms → IsAllowedField (field_in itself made ms)

field_is : (ms : List (List ℕ × Tree)) → is_some (under ms key.Schema) ≡ true → IfSome (under ms key.Schema) (IsRight (Some kind.Schema))
    → IsAllowedField (field_in itself made ms)
field_is ms there h = record { alias = aliases (at ms key.ValidationAlias); schema = needed ms key.Schema there h }

pub field_rows_are : (k : FieldsKind) → AllByRecursion IsFieldRight (field_types k)
unfolding kind_under
field_rows_are fields.Model = (λ ms c. field_is ms (is_there _ c.none_absent.1.0) (c.under key.Schema), tt)
field_rows_are fields.TypedDict = (λ ms c. field_is ms (is_there _ c.none_absent.1.0) (c.under key.Schema), tt)

-- a config in which nothing is wrong
fits_flags : (t u : Tree) → fits fit.NotBothFalse t u ≡ true → not (is_false (flag_of t) && is_false (flag_of u)) ≡ true
unfolding fits
fits_flags t u e = e

-- by the flags that are written: by name, by alias, and whether names are asked for
read_by : (names aliases : Option Bool) (populate : Bool) → not (is_false names && is_false aliases) ≡ true
    → unwrap_or aliases true || unwrap_or names (populate || is_false aliases) ≡ true
read_by names None populate e = refl
read_by names (Some true) populate e = refl
read_by None (Some false) true e = refl
read_by None (Some false) false e = refl
read_by (Some true) (Some false) populate e = refl
read_by (Some false) (Some false) populate e = cc

either_read : (names aliases : Option Tree) (populate : Bool) → misfit config_test names aliases ≡ []
    → unwrap_or (read flag_of aliases) true || unwrap_or (read flag_of names) (populate || is_false (read flag_of aliases)) ≡ true
either_read None None populate e = refl
either_read None (Some u) populate e = read_by None (flag_of u) populate refl
either_read (Some t) None populate e = refl
either_read (Some t) (Some u) populate e =
    read_by (flag_of t) (flag_of u) populate (fits_flags t u (right (fits fit.NotBothFalse t u) _ e))

pub settings_are : (ms : List (List ℕ × Tree)) → IsClean config ms → AreSettings (settings (tree_at itself ms))
settings_are ms c = record {
  bounds = record { least_is_count = counts (at ms key.StrMinLength); most_is_count = counts (at ms key.StrMaxLength) };
  is_read =
      either_read (at ms key.ValidateByName) (at ms key.ValidateByAlias) (flag_or false (at ms key.PopulateByName))
      (tested (at ms) config_test c.fits);
}
