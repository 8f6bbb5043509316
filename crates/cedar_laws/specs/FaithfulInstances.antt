-- Instances of the premises of the laws on what holds no extension value: a record with a set in it, in a context, in a
-- store and in a map.
use Rattle.std.specs.Prelude.{◌≡◌, pos, true, cond, [], ◌∷◌, Some, None, codes}
use Rattle.cedar_model.specs.Terms.{Term, long_literal, set_of, record_of, no_terms, one_term, fields_of}
use Rattle.cedar_model.specs.Values.{Represented, plain_represented, set_represented, record_represented}
use Rattle.cedar_model.specs.Values.{no_represented, one_represented, RepresentedFields, no_represented_at}
use Rattle.cedar_model.specs.Values.{one_represented_at}
use Rattle.cedar_model.specs.Shapes.{is_restricted}
use Rattle.cedar_model.specs.Outcomes.{text_eq, entity_eq}
use Rattle.cedar_model.specs.Failures.{value, answers}
use Rattle.cedar_model.specs.Settings.{known_entry, known_context, StoredEntity, shallow, Setting}
use Rattle.cedar_model.specs.World.{Extensions}
use Rattle.cedar_model.specs.Rules.{Runs}
use Rattle.cedar_model.specs.Agreement.{no_slots}
use Rattle.cedar_model.specs.Restricted.{IsGivenSound}
use Rattle.cedar_model.specs.examples.Setting.{user, long, some_functions}
use Rattle.cedar_model.specs.examples.Instances.{asking_calls, no_calls}
use Rattle.cedar_laws.specs.Faithful.{GivenHoldsNoExtensionValue, AnswerNoExtensionValue, GiveNoExtensionValue}
use Rattle.cedar_laws.specs.Faithful.{NoneAnswers}

abbrev pub one : Represented
one = plain_represented (long_literal (pos 1))

abbrev pub two : Represented
two = plain_represented (long_literal (pos 2))

-- `{a: [1, 2]}`
abbrev pub listed : RepresentedFields
listed =
    one_represented_at (codes "a") (set_represented (one_represented one (one_represented two no_represented)))
    no_represented_at

abbrev pub listing_facts : StoredEntity
listing_facts =
    record { attributes = (codes "f", value (record_represented listed)) ∷ []; tags = []; ancestors = [] }

abbrev pub no_functions : Extensions
no_functions = record { arity = λ f. None; overloaded = [] }

-- it is the context, an attribute of a partial store, and the value of an unknown
abbrev pub listing : Setting
listing = record {
  request =
      record {
        principal_entry = known_entry (user (codes "p"));
        action_entry = known_entry (user (codes "act"));
        resource_entry = known_entry (user (codes "r"));
        context_part = known_context listed;
      };
  store =
      record { entity = λ e. cond (entity_eq e (user (codes "p"))) (Some listing_facts) None; is_partial = true };
  map = λ n. cond (text_eq n (codes "u")) (Some (record_represented listed)) None;
  slots = no_slots;
  extensions = no_functions;
  resolution = shallow;
}

-- `{a: [2, 1]}`
abbrev pub listed_term : Term
listed_term = record_of (fields_of ((codes "a", set_of (one_term (long 2) (one_term (long 1) no_terms))) ∷ []))

-- all of it is sound and holds no extension value
abbrev pub ListingHoldsNone : Type 0
ListingHoldsNone = IsGivenSound no_calls listing × GivenHoldsNoExtensionValue listing

-- no function answers; and of those that do, some answer no extension value, nor do those of a world
abbrev pub FunctionsHoldNone : Type 0
FunctionsHoldNone =
    NoneAnswers no_calls × AnswerNoExtensionValue asking_calls × GiveNoExtensionValue some_functions

-- the restricted expression answers the record
abbrev pub ListedIsAnswered : Type 0
ListedIsAnswered =
    (is_restricted listed_term ≡ true)
    × Runs listing no_calls 3 listed_term (answers (value (record_represented listed)))
