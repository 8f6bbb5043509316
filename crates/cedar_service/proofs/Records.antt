-- What a JSON value says that says a record is what it says as a context.
use Rattle.std.proofs.Common.{◌≡◌, refl, sym, ◌∙◌, subst, Bool, true, false, true≢false, List, [], ◌∷◌, Option}
use Rattle.std.proofs.Common.{Some, None, Ok, Err, codes, bytes_eq}
use Rattle.std.specs.Prelude.{if◌then◌else◌}
use Rattle.json.specs.Json.{Json, null, boolean, number, string, array, object, Items, Members, no_members, member}
use Rattle.json.specs.Find.{as_str}
use Rattle.cedar_model.specs.Terms.{Text, EntityName, Term, literal, unknown, call, set_of, terms_of}
use Rattle.cedar_model.specs.Rules.{fields_of_record}
use Rattle.cedar_requests.specs.Creations.{is_record}
use Rattle.cedar_json_reader.specs.Numbers.{long_of_text}
use Rattle.cedar_json_reader.specs.declared.errors.RefusalReason.TheVariants as reasons
use Rattle.cedar_json_reader.specs.Refusals.{Said, refused, under, made_of}
use Rattle.cedar_json_reader.specs.Paths.{Step, at_key}
use Rattle.cedar_json_reader.specs.Words.{is_name}
use Rattle.cedar_json_reader.specs.Said.{said, said_items, said_members, said_call, said_sole_call, record_said}
use Rattle.cedar_json_reader.specs.Said.{entity_said, entity_term, uid_said, called_said, called, unknown_said, extension_call_said}
use Rattle.cedar_json_reader.specs.Said.{arguments_said, said_list, sole_said, long_said, unknown_named}
use Rattle.cedar_json_reader.specs.SaidContexts.{context_said}
use Rattle.cedar_restricted.specs.Readers.{text_in}

-- it says no record
abbrev NoRecord : Said Term → Type 0
NoRecord (Ok t) = is_record t ≡ false
NoRecord (Err r) = Unit {0}

under_no_record : (s : Step) (t : Said Term) → NoRecord t → NoRecord (under s t)
under_no_record s (Ok t) h = h
under_no_record s (Err r) h = tt

entity_no_record : (e : Said EntityName) → NoRecord (made_of entity_term e)
unfolding fields_of_record
entity_no_record (Ok e) = refl
entity_no_record (Err r) = tt

named_no_record : (n : Option Text) → NoRecord (unknown_named n)
unfolding fields_of_record
named_no_record (Some n) = refl
named_no_record None = tt

unknown_no_record : (ts : List Term) → NoRecord (unknown_said ts)
unknown_no_record [] = tt
unknown_no_record (t ∷ []) = named_no_record (text_in t)
unknown_no_record (t ∷ u ∷ ts) = tt

if_no_record : (b : Bool) (x y : Said Term) → NoRecord x → NoRecord y → NoRecord (if b then x else y)
if_no_record true x y h k = h
if_no_record false x y h k = k

called_no_record : (f : Text) (ts : List Term) → NoRecord (called f ts)
unfolding fields_of_record
called_no_record f ts =
    if_no_record (bytes_eq f (codes "unknown")) (unknown_said ts) (extension_call_said f ts) (unknown_no_record ts)
    (if_no_record (is_name f) (Ok (call f (terms_of ts))) (under (at_key (codes "fn")) (refused reasons.NotAName)) refl tt)

called_with_no_record : (f : Option Text) (ts : Said (List Term)) → NoRecord (called_said f ts)
called_with_no_record None ts = tt
called_with_no_record (Some f) (Ok ts) = called_no_record f ts
called_with_no_record (Some f) (Err r) = tt

call_no_record : (j : Json) → NoRecord (said_call j)
call_no_record null = tt
call_no_record (boolean b) = tt
call_no_record (number t) = tt
call_no_record (string t) = tt
call_no_record (array js) = tt
call_no_record (object no_members) = tt
call_no_record (object (member k a no_members)) = tt
call_no_record (object (member k a (member l b no_members))) =
    let first = called_said (as_str a) (arguments_said l (said b) (said_list b)) in
    let second = called_said (as_str b) (arguments_said k (said a) (said_list a)) in
    let none : Said Term = refused reasons.NotACall in
    if_no_record (bytes_eq k (codes "fn")) first (if bytes_eq l (codes "fn") then second else none)
    (called_with_no_record (as_str a) (arguments_said l (said b) (said_list b)))
    (if_no_record (bytes_eq l (codes "fn")) second none
    (called_with_no_record (as_str b) (arguments_said k (said a) (said_list a))) tt)
call_no_record (object (member k a (member l b (member m c ms)))) = tt

long_no_record : (n : Option _) → NoRecord (long_said n)
unfolding fields_of_record
long_no_record (Some n) = refl
long_no_record None = tt

set_no_record : (ts : Said (List Term)) → NoRecord (made_of (λ us. set_of (terms_of us)) ts)
unfolding fields_of_record
set_no_record (Ok ts) = refl
set_no_record (Err r) = tt

-- so nothing that says a record says it
absurd_record : (s : Said Term) (t : Term) → NoRecord s → s ≡ Ok t → is_record t ≡ true → ⊥
absurd_record s t none_here is is_one = true≢false (sym is_one ∙ subst NoRecord is none_here)

-- of a member that stands alone
sole_is : (b c : Bool) (of_entity of_call of_record : Said Term) (t : Term) → NoRecord of_entity → NoRecord of_call
    → (if b then of_entity else (if c then of_call else of_record)) ≡ Ok t → is_record t ≡ true → of_record ≡ Ok t
sole_is true c of_entity of_call of_record t no_entity no_call is is_one = absurd (absurd_record of_entity t no_entity is is_one)
sole_is false true of_entity of_call of_record t no_entity no_call is is_one = absurd (absurd_record of_call t no_call is is_one)
sole_is false false of_entity of_call of_record t no_entity no_call is is_one = is

pub as_context : (j : Json) (t : Term) → said j ≡ Ok t → is_record t ≡ true → context_said j ≡ Ok t
unfolding fields_of_record
as_context null t is is_one = absurd (absurd_record (said null) t tt is is_one)
as_context (boolean b) t is is_one = absurd (absurd_record (said (boolean b)) t refl is is_one)
as_context (number n) t is is_one = absurd (absurd_record (said (number n)) t (long_no_record (long_of_text n)) is is_one)
as_context (string s) t is is_one = absurd (absurd_record (said (string s)) t refl is is_one)
as_context (array js) t is is_one = absurd (absurd_record (said (array js)) t (set_no_record (said_items 0 js)) is is_one)
as_context (object no_members) t is is_one = is
as_context (object (member k j no_members)) t is is_one =
    sole_is (bytes_eq k (codes "__entity")) (bytes_eq k (codes "__extn")) (entity_said j)
    (under (at_key (codes "__extn")) (said_call j)) (record_said (said_members (member k j no_members))) t
    (under_no_record (at_key (codes "__entity")) (made_of entity_term (uid_said j)) (entity_no_record (uid_said j)))
    (under_no_record (at_key (codes "__extn")) (said_call j) (call_no_record j)) is is_one
as_context (object (member k j (member l i ms))) t is is_one = is
