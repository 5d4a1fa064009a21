-- Where nothing is wrong with the members of an object, nothing is wrong with what is found under a key, and what has to be there is there.
use Rattle.std.proofs.Common.{◌≡◌, ℕ, Bool, true, false, if◌then◌else◌, List, [], ◌∷◌, ◌++◌, Option, None, Some, is_some, not, option_map, flat_map, refl, sym, ◌∙◌, subst}
use Rattle.std.proofs.lemmas.Slice.Eq.{bytes_eq-Decides}
use Rattle.std.proofs.lemmas.Bool.{false≢true}
use Rattle.std.specs.Prelude.{◌<◌, length}
use Rattle.std.specs.Str.{bytes_eq}
use Rattle.std.specs.List.{AllByRecursion}
use Rattle.std.specs.Option.{IfSome}
use Rattle.pv_tree.specs.declared.Step.{Step}
use Rattle.pv_tree.specs.declared.Step.TheVariants.{Name}
use Rattle.pv_tree.specs.declared.Tree.{Tree}
use Rattle.pv_node.specs.Preorder.{preorder, optional}
use Rattle.pv_schema_values.specs.Values.{is_value, text_of, literals_of, members_of, alias_of}
use Rattle.pv_schema_values.specs.declared.ValueKind.{ValueKind}
use Rattle.pv_schema_values.specs.declared.ValueKind.TheVariants as value
use Rattle.std.specs.List.{IsDistinct}
use Rattle.pv_tree.specs.Names.{HasDistinctNames}
use Rattle.pv_rules.specs.declared.FieldsKind.{FieldsKind}
use Rattle.pv_schema_check.specs.Find.{find, itself}
use Rattle.pv_schema_table.specs.Table.{ObjectRow, kind_under}
use Rattle.pv_schema_check.specs.Checking.{faults, faults_under, member_faults, all_under, is_absent, missing}
use Rattle.pv_node.specs.declared.Node.{Node}
use Rattle.pv_schema.specs.Choices.{Choice}
use Rattle.pv_schema.specs.Fields.{Field}
use Rattle.pv_schema.specs.Making.{MadeAs, made}
use Rattle.pv_schema.specs.Written.{or_empty, read}
use Rattle.pv_schema.specs.Configs.{titled}
use Rattle.pv_rules.specs.Allowed.{IsAlias, AreSettings}
use Rattle.pv_node.specs.Allowed.{IsAllowed, IsNamed}
use Rattle.pv_schema_check.specs.declared.Refusal.{Refusal}
use Rattle.pv_schema_table.specs.declared.Key.{Key}
use Rattle.pv_schema_table.specs.declared.Kind.{Kind}
use Rattle.pv_schema_table.specs.declared.Kind.TheVariants as kind
use Rattle.pv_schema_table.specs.declared.KeyRow.{KeyRow}
use Rattle.pv_schema_check.proofs.CheckOpens.{value_opens}

pub both_empty : {X : Type 0} (xs ys : List X) → xs ++ ys ≡ [] → (xs ≡ []) × (ys ≡ [])
both_empty [] ys e = (refl, e)
both_empty (x ∷ xs) ys e = cc

pub none_under : (step : Step) (rs : List Refusal) → all_under step rs ≡ [] → rs ≡ []
none_under step [] e = refl
none_under step (r ∷ rs) e = cc

pub right : {X : Type 0} (b : Bool) (x : X) → (if b then [] else x ∷ []) ≡ [] → b ≡ true
right true x e = refl
right false x e = cc

-- a field: its alias, and the nodes of its schema
pub record IsAllowedField (f : Field) : Type 0 where
  pub alias : IfSome (f.keys).validation_alias IsAlias
  pub schema : AllByRecursion IsAllowed (preorder f.schema)

-- fields with names: no name comes twice
pub record AreAllowedFields (fs : List (List ℕ × Field)) : Type 0 where
  pub names : HasDistinctNames fs
  pub each : AllByRecursion (λ f. IsAllowedField f.1) fs

-- choices: there is one or more, and the nodes of their schemas
pub record AreAllowedChoices (cs : List Choice) : Type 0 where
  pub some : 0 < length cs
  pub each : AllByRecursion (λ c. AllByRecursion IsAllowed (preorder c.schema)) cs

-- the same of choices under tags: no tag comes twice
pub record AreAllowedTagged (cs : List (List ℕ × Node)) : Type 0 where
  pub some : 0 < length cs
  pub names : HasDistinctNames cs
  pub each : AllByRecursion (λ c. AllByRecursion IsAllowed (preorder c.1)) cs

-- definitions: each has a name, and the nodes of all
pub record AreAllowedDefinitions (ns : List Node) : Type 0 where
  pub named : AllByRecursion IsNamed ns
  pub each : AllByRecursion IsAllowed (flat_map preorder ns)

-- what is made of a tree is allowed
abbrev pub AreAllowedAs : (k : Kind) → MadeAs k → Type 0
AreAllowedAs (kind.Value v) m = Unit {0}
AreAllowedAs kind.Schema n = AllByRecursion IsAllowed (preorder n)
AreAllowedAs kind.Schemas ns = AllByRecursion IsAllowed (flat_map preorder ns)
AreAllowedAs kind.Choices cs = AreAllowedChoices cs
AreAllowedAs kind.Choice c = AllByRecursion IsAllowed (preorder c.schema)
AreAllowedAs kind.Tagged cs = AreAllowedTagged cs
AreAllowedAs kind.Definitions ns = AreAllowedDefinitions ns
AreAllowedAs kind.Definition n = IsNamed n × AllByRecursion IsAllowed (preorder n)
AreAllowedAs (kind.Fields k) fs = AreAllowedFields fs
AreAllowedAs (kind.Field k) f = IsAllowedField f
AreAllowedAs kind.Config s = AreSettings s
AreAllowedAs kind.NotBuilt m = Unit {0}

-- a tree with which nothing is wrong as a kind is allowed as that kind
abbrev pub IsSound : Tree → Type 0
IsSound t = (k : Kind) → faults t k ≡ [] → AreAllowedAs k (made t k)

pub each_append : {X : Type 0} (P : X → Type 0) (xs ys : List X) → AllByRecursion P xs → AllByRecursion P ys → AllByRecursion P (xs ++ ys)
each_append P [] ys h k = k
each_append P (x ∷ xs) ys h k = (h.0, each_append P xs ys h.1 k)

-- nothing is wrong with a tree under a key that takes a kind
abbrev pub IsRight : Option Kind → Tree → Type 0
IsRight k t = (faults_under itself faults k t ≡ []) × IsSound t

pub members_right : (o : ObjectRow) (ms : List (List ℕ × Tree)) → flat_map (member_faults itself faults o) ms ≡ [] → AllByRecursion (λ m. IsSound m.1) ms
    → AllByRecursion (λ m. IsRight (kind_under o m.0) m.1) ms
members_right o [] e h = tt
members_right o (m ∷ ms) e h =
    let p = both_empty (member_faults itself faults o m) (flat_map (member_faults itself faults o) ms) e in
    ((none_under (Name m.0) (faults_under itself faults (kind_under o m.0) m.1) p.0, h.0), members_right o ms p.1 h.1)

first_found : {X : Type 0} (P : X → Type 0) (b : Bool) (x : X) (o : Option X) → (b ≡ true → P x) → IfSome o P → IfSome (if b then Some x else o) P
first_found P true x o h k = h refl
first_found P false x o h k = k

pub found_is : (P : List ℕ → Tree → Type 0) (key : List ℕ) (ms : List (List ℕ × Tree)) → AllByRecursion (λ m. P m.0 m.1) ms → IfSome (find key ms) (P key)
found_is P key [] h = tt
found_is P key (m ∷ ms) h =
    first_found (P key) (bytes_eq key m.0) m.1 (find key ms) (λ e. subst (λ k. P k m.1) (sym ((bytes_eq-Decides key m.0).0 e)) h.0) (found_is P key ms h.1)

-- keys that have to be there are there
there : (b : Bool) (r : Refusal) (rs : List Refusal) → (if b then r ∷ rs else rs) ≡ [] → (b ≡ false) × (rs ≡ [])
there true r rs e = cc
there false r rs e = (refl, e)

pub none_absent : (at : Key → Option Tree) (rs : List KeyRow) → missing at rs ≡ [] → AllByRecursion (λ r. is_absent at r ≡ false) rs
none_absent at [] e = tt
none_absent at (r ∷ rs) e = let p = there (is_absent at r) _ (missing at rs) e in (p.0, none_absent at rs p.1)

-- a tree stands for itself
pub is_there : (o : Option Tree) → not (is_some (option_map itself o)) ≡ false → is_some o ≡ true
is_there None e = cc
is_there (Some t) e = refl

pub shown : (P : Tree → Type 0) (o : Option Tree) → IfSome o P → IfSome (option_map itself o) P
shown P None h = tt
shown P (Some t) h = h

pub shown_there : (o : Option Tree) → is_some o ≡ true → is_some (option_map itself o) ≡ true
shown_there None e = e
shown_there (Some t) e = refl

-- the schema under a key, and the list of schemas
pub schema_right : (o : Option Tree) → IfSome o (IsRight (Some kind.Schema)) → AllByRecursion IsAllowed (flat_map preorder (optional (option_map (λ t. made t kind.Schema) o)))
schema_right None h = tt
schema_right (Some t) h = each_append IsAllowed (preorder (made t kind.Schema)) [] (h.1 kind.Schema h.0) tt

pub schemas_right : (o : Option Tree) → IfSome o (IsRight (Some kind.Schemas)) → AllByRecursion IsAllowed (flat_map preorder (or_empty (option_map (λ t. made t kind.Schemas) o)))
schemas_right None h = tt
schemas_right (Some t) h = h.1 kind.Schemas h.0

pub no_fields : AreAllowedFields []
unfolding IsDistinct
no_fields = record { names = tt; each = tt }

pub fields_right : (k : FieldsKind) (o : Option Tree) → IfSome o (IsRight (Some (kind.Fields k))) → AreAllowedFields (or_empty (option_map (λ t. made t (kind.Fields k)) o))
fields_right k None h = no_fields
fields_right k (Some t) h = h.1 (kind.Fields k) h.0

pub choices_right : (o : Option Tree) → is_some o ≡ true → IfSome o (IsRight (Some kind.Choices)) → AreAllowedChoices (or_empty (option_map (λ t. made t kind.Choices) o))
choices_right None is h = absurd (false≢true is)
choices_right (Some t) is h = h.1 kind.Choices h.0

pub tagged_right : (o : Option Tree) → is_some o ≡ true → IfSome o (IsRight (Some kind.Tagged)) → AreAllowedTagged (or_empty (option_map (λ t. made t kind.Tagged) o))
tagged_right None is h = absurd (false≢true is)
tagged_right (Some t) is h = h.1 kind.Tagged h.0

pub definitions_right : (o : Option Tree) → IfSome o (IsRight (Some kind.Definitions)) → AreAllowedDefinitions (or_empty (option_map (λ t. made t kind.Definitions) o))
definitions_right None h = record { named = tt; each = tt }
definitions_right (Some t) h = h.1 kind.Definitions h.0

pub config_right : (cls : Option (List ℕ)) (o : Option Tree) → IfSome o (IsRight (Some kind.Config))
    → IfSome (option_map (titled cls) (option_map (λ t. made t kind.Config) o)) AreSettings
config_right cls None h = tt
config_right cls (Some t) h = let s = h.1 kind.Config h.0 in record { bounds = s.bounds; is_read = s.is_read }

-- a value that has to be there
pub value_right : {Y : Type 0} (v : ValueKind) (f : Tree → Option Y) → ((t : Tree) → is_value v t ≡ is_some (f t))
    → (o : Option Tree) → is_some o ≡ true → IfSome o (IsRight (Some (kind.Value v))) → is_some (read f o) ≡ true
value_right v f same None is h = is
value_right v f same (Some t) is h = sym (same t) ∙ right (is_value v t) _ (sym (value_opens t v) ∙ h.0)

pub is_text : (t : Tree) → is_value value.Text t ≡ is_some (text_of t)
unfolding is_value
is_text t = refl

pub is_literals : (t : Tree) → is_value value.Literals t ≡ is_some (literals_of t)
unfolding is_value
is_literals t = refl

pub is_alias : (t : Tree) → is_value value.Alias t ≡ is_some (alias_of t)
unfolding is_value
is_alias t = refl

pub is_members : (t : Tree) → is_value value.Members t ≡ is_some (members_of t)
unfolding is_value
is_members t = refl
