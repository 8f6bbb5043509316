-- What a document with several evaluations asks, and what is replied.
use Rattle.std.specs.Prelude.{◌≡◌, ◌++◌, ℕ, suc, nat_lt, Bool, true, false, not, if◌then◌else◌, List, [], ◌∷◌, Option, Some, None, Ok, Err, option_map, bytes_eq, codes, string_bytes}
use Rattle.std.specs.List.{join_by}
use Rattle.json.specs.Json.{Json, Items, no_items, item}
use Rattle.json.specs.Find.{as_array, as_str, get}
use Rattle.json.specs.Value.{items_view}
use Rattle.cedar_endpoints.specs.declared.answers.Status.TheVariants as statuses
use Rattle.cedar_endpoints.specs.declared.asked.Keys.TheVariants as keys
use Rattle.cedar_endpoints.specs.declared.replies.Outcome.{Outcome}
use Rattle.cedar_endpoints.specs.declared.replies.Outcome.TheVariants as outcomes
use Rattle.cedar_endpoints.specs.declared.replies.Reply.{Reply}
use Rattle.cedar_endpoints.specs.declared.semantics.Semantic.{Semantic}
use Rattle.cedar_endpoints.specs.declared.semantics.Semantic.TheVariants as semantics
use Rattle.cedar_endpoints.specs.declared.several.Several as lists
use Rattle.cedar_endpoints.specs.Asked.{Text, Said, Fault, Evaluation, wrong, unless, and_then, object_fault, text_in, evaluation_of}
use Rattle.cedar_endpoints.specs.Replies.{Replies, IsFault, IsOutcome, decision_text, error_text, fault_json}

-- ---- what is asked

-- no further item is decided once one is allowed, or is not
abbrev pub stops : Semantic → Bool → Bool
stops semantics.ExecuteAll b = false
stops semantics.DenyOnFirstDeny b = not b
stops semantics.PermitOnFirstPermit b = b

-- the semantic of this name
abbrev pub semantic_named : Text → Said Semantic
semantic_named t =
    if bytes_eq t (codes "execute_all") then Ok semantics.ExecuteAll else (
    if bytes_eq t (codes "deny_on_first_deny") then Ok semantics.DenyOnFirstDeny else (
    if bytes_eq t (codes "permit_on_first_permit") then Ok semantics.PermitOnFirstPermit else
    wrong (codes ".options") (codes ".evaluations_semantic") (codes "not a semantic")))

abbrev pub semantic_at : Option Json → Said Semantic
semantic_at None = Ok semantics.ExecuteAll
semantic_at (Some j) =
    and_then semantic_named (text_in (codes ".options") (codes ".evaluations_semantic") (as_str j))

abbrev pub semantic_in : Json → Said Semantic
semantic_in j =
    unless (object_fault keys.Options (codes ".options") j) (semantic_at (get (codes "evaluations_semantic") j))

-- that of the options; where none is named, all is decided
abbrev pub semantic_said : Option Json → Said Semantic
semantic_said None = Ok semantics.ExecuteAll
semantic_said (Some j) = semantic_in j

-- the items, if there is one
abbrev pub some_items : Items → Option Items
some_items no_items = None
some_items (item j js) = Some (item j js)

abbrev pub items_in : Option Items → Said (Option Items)
items_in None = wrong (codes ".evaluations") [] (codes "not an array")
items_in (Some js) = Ok (some_items js)

abbrev pub items_said : Option Json → Said (Option Items)
items_said None = Ok None
items_said (Some j) = items_in (as_array j)

-- where it stops, and the items
pub record Several : Type 0 where
  pub semantic : Semantic
  pub items : Items

abbrev pub several_of : Semantic → Items → Several
several_of s js = record { semantic = s; items = js }

abbrev pub several_view : lists.Several → Several
several_view s = several_of s.semantic (items_view s.items.now.items)

abbrev pub with_semantic : Json → Semantic → Said (Option Several)
with_semantic j s =
    and_then (λ o. Ok (option_map (several_of s) o)) (items_said (get (codes "evaluations") j))

-- the list of a document, if it has one with an item
abbrev pub several_said : Json → Said (Option Several)
several_said j =
    unless (object_fault keys.Evaluations [] j) (and_then (with_semantic j) (semantic_said (get (codes "options") j)))

-- ---- what is decided

-- which outcomes there are for what is asked
abbrev pub Decides : Type 0 → Type 1
Decides Question = Question → Outcome → Type 0

-- what is decided for what is said; or 400 for what is wrong
abbrev pub IsDecided : Decides Evaluation → Said Evaluation → Reply → Type 0
IsDecided decides (Err f) r = IsFault statuses.BadRequest f r
IsDecided decides (Ok q) r = (o : Outcome) × decides q o × IsOutcome o r

-- that no item is allowed of which this error is told
abbrev pub IsDeniedFor : Text → Bool → Text → Type 0
IsDeniedFor error b t = (b ≡ false) × (t ≡ decision_text false (error_text error))

-- whether an item is allowed, and the text that says so
abbrev pub IsItemOf : Outcome → Bool → Text → Type 0
IsItemOf (outcomes.Decided allowed context) b t = (b ≡ allowed) × (t ≡ decision_text allowed (string_bytes context))
IsItemOf (outcomes.Refused error) b t = IsDeniedFor (string_bytes error) b t
IsItemOf (outcomes.TooLarge error) b t = IsDeniedFor (string_bytes error) b t

-- the same of what is said of an item: one that is wrong is not allowed
abbrev pub IsItemSaid : Decides Evaluation → Said Evaluation → Bool → Text → Type 0
IsItemSaid decides (Err f) b t = IsDeniedFor (fault_json f) b t
IsItemSaid decides (Ok q) b t = (o : Outcome) × decides q o × IsItemOf o b t

-- the same of an item, with the members of the whole document where it has none
abbrev pub IsItem : Decides Evaluation → Json → Json → Bool → Text → Type 0
IsItem decides all j b t = IsItemSaid decides (evaluation_of keys.Evaluation j (Some all)) b t

-- as many texts as items, up to the first at which it stops, each that of its item alone
pub data AreItems (stop : Bool → Bool) (Is : Json → Bool → Text → Type 0) : Items → List Text → Type 0 where
  no_item : AreItems stop Is no_items []
  goes_on : {j : Json} {js : Items} {b : Bool} {t : Text} {ts : List Text} → Is j b t → stop b ≡ false →
      AreItems stop Is js ts → AreItems stop Is (item j js) (t ∷ ts)
  stops_at : {j : Json} {js : Items} {b : Bool} {t : Text} → Is j b t → stop b ≡ true →
      AreItems stop Is (item j js) (t ∷ [])

-- ---- what is replied

abbrev pub joined : List Text → Text
joined ts = join_by (λ t. t) (codes ",") ts

abbrev pub list_text : Text → Text
list_text items = codes "{\"evaluations\":[" ++ (items ++ codes "]}")

abbrev pub item_count : Items → ℕ
item_count no_items = 0
item_count (item j js) = suc (item_count js)

abbrev pub too_many : Fault
too_many = record { part = codes ".evaluations"; member = []; reason = codes "too many (--max-evaluations)" }

-- a list of decisions, that of each item
abbrev pub AreListed : Decides Evaluation → Json → Several → Reply → Type 0
AreListed decides j s r =
    (ts : List Text) × AreItems (stops s.semantic) (IsItem decides j) s.items ts
    × Replies statuses.Ok (list_text (joined ts)) r

-- that; or where there are too many items, 413, and none is decided
abbrev pub AreListedUnless : Bool → Decides Evaluation → Json → Several → Reply → Type 0
AreListedUnless true decides j s r = IsFault statuses.TooLarge too_many r
AreListedUnless false decides j s r = AreListed decides j s r

-- a list of decisions, where several are asked, and no more than so many; without a list, that of the one that is asked
abbrev pub AreDecided : ℕ → Decides Evaluation → Json → Said (Option Several) → Reply → Type 0
AreDecided most decides j (Err f) r = IsFault statuses.BadRequest f r
AreDecided most decides j (Ok None) r = IsDecided decides (evaluation_of keys.Evaluations j None) r
AreDecided most decides j (Ok (Some s)) r = AreListedUnless (nat_lt most (item_count s.items)) decides j s r

-- the document's evaluations are decided, as far as it says any, and no more than so many
abbrev pub AreEvaluated : ℕ → Decides Evaluation → Json → Reply → Type 0
AreEvaluated most decides j r = AreDecided most decides j (several_said j) r
