-- What the JSON of a table says: the names of its columns, and what each holds.
use Rattle.std.specs.Prelude.{ℕ, ◌+◌, Bool, true, false, List, [], ◌∷◌, ◌++◌, if◌then◌else◌, Option, Some, None, Ok}
use Rattle.std.specs.Prelude.{◌==◌, bytes_eq, codes}
use Rattle.std.specs.List.{list_any}
use Rattle.json.specs.Json.{Json, Items, no_items, item, Members, no_members, member}
use Rattle.json.specs.Find.{as_str, as_array, as_object}
use Rattle.json.specs.Strict.{keys}
use Rattle.cedar_model.specs.Terms.{Text}
use Rattle.cedar_model.specs.Outcomes.{text_eq}
use Rattle.cedar_sql_columns.specs.declared.errors.RefusalReason.TheVariants as reasons
use Rattle.cedar_sql_columns.specs.Paths.{at_key, at_index}
use Rattle.cedar_sql_columns.specs.Refusals.{Said, refused, under, made_of, and_then}
use Rattle.cedar_sql_columns.specs.Shapes.{one_at, two_at, four_at, text_said}

-- the text at this key
abbrev pub text_under : Text → Json → Said Text
text_under k j = under (at_key k) (text_said j)

-- ---- names of tables and columns

abbrev pub is_empty : Text → Bool
is_empty [] = true
is_empty (b ∷ bs) = false

-- whether the byte is among those of the text: 0 is NUL, and 46 is `.`
abbrev pub has_byte : ℕ → Text → Bool
has_byte mark t = list_any (λ b. b == mark) t

-- a name of one part, which SQL can write in quotes
abbrev pub name_said : Text → Said Text
name_said t =
    if is_empty t then refused reasons.EmptyName else (
    if has_byte 0 t then refused reasons.NulInName else (
    if has_byte 46 t then refused reasons.PointInName else
    Ok t))

-- the name at this key
abbrev pub name_under : Text → Json → Said Text
name_under k j = under (at_key k) (and_then name_said (text_said j))

-- ---- what a column holds

pub data Held : Type 0 where
  a_bool : Held
  a_long : Held
  a_string : Held
  a_record : Held
  an_entity_of : Text → Held

abbrev pub held_named : Text → Said Held
held_named t =
    if bytes_eq t (codes "Bool") then Ok a_bool else (
    if bytes_eq t (codes "Long") then Ok a_long else (
    if bytes_eq t (codes "String") then Ok a_string else (
    if bytes_eq t (codes "Record") then Ok a_record else
    refused reasons.NotHeld)))

-- an entity of the type at `entity`, the one member
abbrev pub entity_said : Json → Said Held
entity_said j = made_of an_entity_of (and_then (text_under (codes "entity")) (one_at (codes "entity") j))

abbrev pub held_by : Json → Option Text → Said Held
held_by j None = entity_said j
held_by j (Some t) = held_named t

-- one of the four words, or an entity
abbrev pub held_said : Json → Said Held
held_said j = held_by j (as_str j)

-- ---- which attribute it holds

-- an entity, or an attribute of it or of a record in it; or what is none of these
pub data Place : Type 0 where
  the_entity : Place
  attribute_in : Place → Text → Place
  elsewhere : Place

abbrev pub is_entity : Place → Bool
is_entity the_entity = true
is_entity (attribute_in p k) = false
is_entity elsewhere = false

-- the same attribute
abbrev pub place_eq : Place → Place → Bool
place_eq the_entity q = is_entity q
place_eq (attribute_in p k) the_entity = false
place_eq (attribute_in p k) (attribute_in q l) = if text_eq k l then place_eq p q else false
place_eq (attribute_in p k) elsewhere = false
place_eq elsewhere q = false

-- the attribute that the text of this index names
abbrev pub step_said : Place → ℕ → Json → Said Place
step_said p n j = made_of (attribute_in p) (under (at_index n) (text_said j))

-- the attribute that texts lead to, the first of this index
abbrev pub steps_said : Place → ℕ → Items → Said Place
steps_said p n no_items = Ok p
steps_said p n (item j js) = and_then (λ q. steps_said q (n + 1) js) (step_said p n j)

abbrev pub some_attribute : Place → Said Place
some_attribute p = if is_entity p then refused reasons.NotAnAttribute else Ok p

abbrev pub attribute_by : Option Items → Said Place
attribute_by None = refused reasons.NotAnArray
attribute_by (Some js) = and_then some_attribute (steps_said the_entity 0 js)

-- an array of texts, of which there is one at least
abbrev pub attribute_said : Json → Said Place
attribute_said j = attribute_by (as_array j)

-- ---- columns

-- a column at a place of the row
pub record SaidColumn : Type 0 where
  pub attribute : Place
  pub holds : Held
  pub place : ℕ

abbrev pub column_of : ℕ → Place → Held → SaidColumn
column_of n p h = record { attribute = p; holds = h; place = n }

abbrev pub with_attribute : ℕ → Json → Place → Said SaidColumn
with_attribute n j p = made_of (column_of n p) (under (at_key (codes "holds")) (held_said j))

abbrev pub column_parts : ℕ → Json × Json → Said SaidColumn
column_parts n p = and_then (with_attribute n p.1) (under (at_key (codes "attribute")) (attribute_said p.0))

-- an object of an attribute and of what is held
abbrev pub column_said : ℕ → Json → Said SaidColumn
column_said n j = and_then (column_parts n) (two_at (codes "attribute") (codes "holds") j)

-- whether one of these columns holds the attribute
abbrev pub is_held : Place → List SaidColumn → Bool
is_held p [] = false
is_held p (c ∷ cs) = if place_eq c.attribute p then true else is_held p cs

-- a column behind others, none of which holds its attribute
abbrev pub new_column : List SaidColumn → SaidColumn → Said SaidColumn
new_column done c = if is_held c.attribute done then refused reasons.DuplicateAttribute else Ok c

abbrev pub new_column_said : List SaidColumn → ℕ → Json → Said SaidColumn
new_column_said done n j = and_then (new_column done) (column_said n j)

-- the same, of a column of this name
abbrev pub named_column_said : List SaidColumn → ℕ → Text → Json → Said SaidColumn
named_column_said done n k j = and_then (λ name. new_column_said done n j) (name_said k)

-- these columns, and the one of a member
abbrev pub one_more_said : List SaidColumn → ℕ → Text → Json → Said (List SaidColumn)
one_more_said done n k j = made_of (λ c. done ++ c ∷ []) (under (at_key k) (named_column_said done n k j))

-- these columns, and those of an object's members, the first at this place
abbrev pub columns_after : List SaidColumn → ℕ → Members → Said (List SaidColumn)
columns_after done n no_members = Ok done
columns_after done n (member k j ms) = and_then (λ cs. columns_after cs (n + 1) ms) (one_more_said done n k j)

abbrev pub columns_said : ℕ → Members → Said (List SaidColumn)
columns_said n ms = columns_after [] n ms

-- ---- tables

-- the type of all entities, or the name of the column that holds the type of each
pub data TypeSaid : Type 0 where
  all_of : Text → TypeSaid
  held_in : Text → TypeSaid

abbrev pub type_by : Json → Option Text → Said TypeSaid
type_by j None = made_of held_in (and_then (name_under (codes "column")) (one_at (codes "column") j))
type_by j (Some t) = Ok (all_of t)

-- a text, or the name at `column`, the one member
abbrev pub type_said : Json → Said TypeSaid
type_said j = type_by j (as_str j)

-- the type of all entities, or the place of the column that holds it
pub data TypesOf : Type 0 where
  of_one : Text → TypesOf
  of_several : ℕ → TypesOf

abbrev pub types_of : TypeSaid → TypesOf
types_of (all_of t) = of_one t
types_of (held_in c) = of_several 2

abbrev pub type_names : TypeSaid → List Text
type_names (all_of t) = []
type_names (held_in c) = c ∷ []

-- the place of the first attribute
abbrev pub first_place : TypeSaid → ℕ
first_place (all_of t) = 2
first_place (held_in c) = 3

-- what a table is called, and its columns: what each is called, from the rowid on, and what they hold
pub record SaidTable : Type 0 where
  pub table : Text
  pub names : List Text
  pub id : ℕ
  pub types : TypesOf
  pub attributes : List SaidColumn

-- the rowid stands first, then the id and the type, if there is a column for it, then the attributes
abbrev pub table_of : Text → Text → TypeSaid → List Text → List SaidColumn → SaidTable
table_of table id t ks cs = record {
  table = table;
  names = codes "rowid" ∷ id ∷ (type_names t ++ ks);
  id = 1;
  types = types_of t;
  attributes = cs;
}

abbrev pub with_members : Text → Text → TypeSaid → Option Members → Said SaidTable
with_members table id t None = refused reasons.NotAnObject
with_members table id t (Some ms) = made_of (table_of table id t (keys ms)) (columns_said (first_place t) ms)

abbrev pub with_type : Text → Text → Json → TypeSaid → Said SaidTable
with_type table id j t = under (at_key (codes "columns")) (with_members table id t (as_object j))

abbrev pub with_id : Text → Json → Json → Text → Said SaidTable
with_id table t j id = and_then (with_type table id j) (under (at_key (codes "type")) (type_said t))

abbrev pub with_table : Json → Json → Json → Text → Said SaidTable
with_table id t j table = and_then (with_id table t j) (name_under (codes "id") id)

abbrev pub table_parts : Json × Json × Json × Json → Said SaidTable
table_parts p = and_then (with_table p.1 p.2 p.3) (name_under (codes "table") p.0)

-- an object of a table's name, of an id, of a type and of columns
abbrev pub table_said : Json → Said SaidTable
table_said j =
    and_then table_parts (four_at (codes "table") (codes "id") (codes "type") (codes "columns") j)
