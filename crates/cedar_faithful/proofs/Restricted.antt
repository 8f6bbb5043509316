-- What JSON says is a restricted expression.
use Rattle.std.specs.Prelude.{◌≡◌, ℕ, ◌+◌, Bool, true, false, List, [], ◌∷◌, Option, Some, None}
use Rattle.std.specs.Prelude.{Ok, Err}
use Rattle.std.specs.Prelude.{if◌then◌else◌, bytes_eq, codes}
use Rattle.std.proofs.Common.{refl}
use Rattle.std.proofs.lemmas.Bool.{and_from}
use Rattle.std.specs.Ordering.{nat_cmp, match_ordering}
use Rattle.std.specs.Cmp.Lexicographic.{slice_cmp}
use Rattle.std.specs.declared.cmp.Ordering.{Ordering}
use Rattle.std.specs.declared.cmp.Ordering.TheVariants.{Less, Equal, Greater}
use Rattle.json.specs.Json.{Json, null, boolean, number, string, array, object, Items, no_items, item}
use Rattle.json.specs.Json.{Members, no_members, member}
use Rattle.json.specs.Find.{as_object, as_str}
use Rattle.cedar_model.specs.Terms.{Text, EntityName, Term, Fields, no_fields, one_field, terms_of}
use Rattle.cedar_model.specs.Terms.{call}
use Rattle.cedar_model.specs.Shapes.{is_restricted, are_restricted, are_restricted_at}
use Rattle.cedar_model.specs.Refusals.{first_repeated}
use Rattle.cedar_expressions.specs.Records.{put_field, put_fields, fields_in_order}
use Rattle.cedar_restricted.specs.Readers.{text_in}
use Rattle.cedar_json_reader.specs.Numbers.{long_of_text}
use Rattle.cedar_json_reader.specs.Words.{is_name}
use Rattle.cedar_json_reader.specs.Paths.{Step}
use Rattle.cedar_json_reader.specs.Refusals.{Said, under, before, made_of, and_then}
use Rattle.cedar_json_reader.specs.Said as said
use Rattle.cedar_json_reader.specs.SaidContexts.{context_said, record_in}

-- ---- what is said is such

abbrev pub SaysSuch : {T : Type 0} → (T → Type 0) → Said T → Type 0
SaysSuch Such (Ok t) = Such t
SaysSuch Such (Err r) = Unit {0}

abbrev pub EachSuch : {T : Type 0} → (T → Type 0) → List T → Type 0
EachSuch Such [] = Unit {0}
EachSuch Such (t ∷ ts) = Such t × EachSuch Such ts

module _ {T : Type 0} (Such : T → Type 0) where
  pub under_such : (p : Step) (s : Said T) → SaysSuch Such s → SaysSuch Such (under p s)
  under_such p (Ok t) h = h
  under_such p (Err r) h = tt

  before_each : (s : Said T) (more : Said (List T)) → SaysSuch Such s → SaysSuch (EachSuch Such) more
      → SaysSuch (EachSuch Such) (before s more)
  before_each (Ok t) (Ok ts) h k = (h, k)
  before_each (Ok t) (Err r) h k = tt
  before_each (Err r) more h k = tt

  -- whichever of two is said
  pub chosen : (b : Bool) (s z : Said T) → SaysSuch Such s → SaysSuch Such z → SaysSuch Such (if b then s else z)
  chosen true s z h k = h
  chosen false s z h k = k

  -- what is said of what was said, and what is made of it
  pub then_such : {U : Type 0} (Then : U → Type 0) (f : T → Said U) (s : Said T) → SaysSuch Such s
      → ((t : T) → Such t → SaysSuch Then (f t)) → SaysSuch Then (and_then f s)
  then_such Then f (Ok t) h k = k t h
  then_such Then f (Err r) h k = tt

  pub made_such : {U : Type 0} (Made : U → Type 0) (f : T → U) (s : Said T) → SaysSuch Such s
      → ((t : T) → Such t → Made (f t)) → SaysSuch Made (made_of f s)
  made_such Made f (Ok t) h k = k t h
  made_such Made f (Err r) h k = tt

abbrev pub IsRestricted : Term → Type 0
IsRestricted t = is_restricted t ≡ true

-- a pair whose term is restricted
abbrev pub IsRestrictedPair : Text × Term → Type 0
IsRestrictedPair p = is_restricted p.1 ≡ true

-- ---- lists of terms, and records in order

terms_restricted : (ts : List Term) → EachSuch IsRestricted ts → are_restricted (terms_of ts) ≡ true
terms_restricted [] h = refl
terms_restricted (t ∷ ts) h = and_from (is_restricted t) (are_restricted (terms_of ts)) h.0 (terms_restricted ts h.1)

-- each field is restricted
abbrev pub EachField : Fields → Type 0
EachField no_fields = Unit {0}
EachField (one_field k t fs) = IsRestricted t × EachField fs

pub fields_restricted : (fs : Fields) → EachField fs → are_restricted_at fs ≡ true
fields_restricted no_fields h = refl
fields_restricted (one_field k t fs) h =
    and_from (is_restricted t) (are_restricted_at fs) h.0 (fields_restricted fs h.1)

placed : (o : Ordering) (x y z : Fields) → EachField x → EachField y → EachField z → EachField (match_ordering o x y z)
placed Less x y z h k l = h
placed Equal x y z h k l = k
placed Greater x y z h k l = l

put_restricted : (fs : Fields) (k : Text) (t : Term) → EachField fs → IsRestricted t → EachField (put_field fs k t)
put_restricted no_fields k t h r = (r, tt)
put_restricted (one_field l u fs) k t h r =
    placed (slice_cmp nat_cmp k l) (one_field k t (one_field l u fs)) (one_field l t fs)
    (one_field l u (put_field fs k t))
    (r, h) (r, h.1) (h.0, put_restricted fs k t h.1 r)

puts_restricted : (fs : Fields) (ps : List (Text × Term)) → EachField fs → EachSuch IsRestrictedPair ps
    → EachField (put_fields fs ps)
puts_restricted fs [] h r = h
puts_restricted fs (p ∷ ps) h r = puts_restricted (put_field fs p.0 p.1) ps (put_restricted fs p.0 p.1 h r.0) r.1

pub in_order_restricted : (ps : List (Text × Term)) → EachSuch IsRestrictedPair ps → EachField (fields_in_order ps)
in_order_restricted ps r = puts_restricted no_fields ps tt r

-- ---- leaves

long_restricted : (o : Option _) → SaysSuch IsRestricted (said.long_said o)
long_restricted (Some n) = refl
long_restricted None = tt

entity_restricted : (s : Said EntityName) → SaysSuch IsRestricted (made_of said.entity_term s)
entity_restricted (Ok e) = refl
entity_restricted (Err r) = tt

-- ---- calls

named_restricted : (o : Option Text) → SaysSuch IsRestricted (said.unknown_named o)
named_restricted (Some n) = refl
named_restricted None = tt

unknown_restricted : (ts : List Term) → SaysSuch IsRestricted (said.unknown_said ts)
unknown_restricted [] = tt
unknown_restricted (t ∷ []) = named_restricted (text_in t)
unknown_restricted (t ∷ u ∷ ts) = tt

called_restricted : (f : Text) (ts : List Term) → EachSuch IsRestricted ts → SaysSuch IsRestricted (said.called f ts)
called_restricted f ts h =
    chosen IsRestricted (bytes_eq f (codes "unknown")) (said.unknown_said ts) (said.extension_call_said f ts)
    (unknown_restricted ts) (chosen IsRestricted (is_name f) (Ok (call f (terms_of ts))) _ (terms_restricted ts h) tt)

call_by : (f : Text) (args : Said (List Term)) → SaysSuch (EachSuch IsRestricted) args
    → SaysSuch IsRestricted (and_then (said.called f) args)
call_by f (Ok ts) h = called_restricted f ts h
call_by f (Err r) h = tt

call_restricted : (o : Option Text) (args : Said (List Term)) → SaysSuch (EachSuch IsRestricted) args
    → SaysSuch IsRestricted (said.called_said o args)
call_restricted None args h = tt
call_restricted (Some f) args h = call_by f args h

one_restricted : (s : Said Term) → SaysSuch IsRestricted s → SaysSuch (EachSuch IsRestricted) (made_of said.one s)
one_restricted (Ok t) h = (h, tt)
one_restricted (Err r) h = tt

arguments_restricted : (k : Text) (s : Said Term) (ts : Said (List Term)) → SaysSuch IsRestricted s
    → SaysSuch (EachSuch IsRestricted) ts → SaysSuch (EachSuch IsRestricted) (said.arguments_said k s ts)
arguments_restricted k s ts h l =
    chosen (EachSuch IsRestricted) (bytes_eq k (codes "arg")) _ _
    (one_restricted (under _ s) (under_such IsRestricted _ s h))
    (chosen (EachSuch IsRestricted) (bytes_eq k (codes "args")) _ _ (under_such (EachSuch IsRestricted) _ ts l) tt)

-- ---- sets and records

set_restricted : (ts : Said (List Term)) → SaysSuch (EachSuch IsRestricted) ts
    → SaysSuch IsRestricted (said.set_said ts)
set_restricted (Ok ts) h = terms_restricted ts h
set_restricted (Err r) h = tt

pair_restricted : (k : Text) (s : Said Term) → SaysSuch IsRestricted s
    → SaysSuch IsRestrictedPair (made_of (said.pair_of k) s)
pair_restricted k (Ok t) h = h
pair_restricted k (Err r) h = tt

member_restricted : (k : Text) (s : Said Term) → SaysSuch IsRestricted s
    → SaysSuch IsRestrictedPair (said.member_said k s)
member_restricted k s h =
    chosen IsRestrictedPair (said.is_reserved_key k) _ _ tt
    (pair_restricted k (under _ s) (under_such IsRestricted _ s h))

unique_restricted : (o : Option Text) (ps : List (Text × Term)) → EachSuch IsRestrictedPair ps
    → SaysSuch IsRestricted (said.unique_said o ps)
unique_restricted None ps h = fields_restricted (fields_in_order ps) (in_order_restricted ps h)
unique_restricted (Some k) ps h = tt

pub record_restricted : (ps : Said (List (Text × Term))) → SaysSuch (EachSuch IsRestrictedPair) ps
    → SaysSuch IsRestricted (said.record_said ps)
record_restricted (Ok ps) h = unique_restricted (first_repeated (said.keys_of_pairs ps)) ps h
record_restricted (Err r) h = tt

sole_restricted : (k : Text) (e c r : Said Term) → SaysSuch IsRestricted e → SaysSuch IsRestricted c
    → SaysSuch IsRestricted r → SaysSuch IsRestricted (said.sole_said k e c r)
sole_restricted k e c r h i j =
    chosen IsRestricted (bytes_eq k (codes "__entity")) e _ h
    (chosen IsRestricted (bytes_eq k (codes "__extn")) (under _ c) r (under_such IsRestricted _ c i) j)

-- ---- all values

object_restricted : (ms : Members) (c r : Said Term) → SaysSuch IsRestricted c → SaysSuch IsRestricted r
    → SaysSuch IsRestricted (said.object_said ms c r)
object_restricted no_members c r h k = k
object_restricted (member l j no_members) c r h k =
    sole_restricted l (said.entity_said j) c r
    (under_such IsRestricted _ _ (entity_restricted (said.uid_said j))) h k
object_restricted (member l j (member n i ms)) c r h k = k

mutual
  pub said_restricted : (j : Json) → SaysSuch IsRestricted (said.said j)
  said_restricted null = tt
  said_restricted (boolean b) = refl
  said_restricted (number t) = long_restricted (long_of_text t)
  said_restricted (string t) = refl
  said_restricted (array js) = set_restricted (said.said_items 0 js) (items_restricted 0 js)
  said_restricted (object ms) =
      object_restricted ms (said.said_sole_call ms) (said.record_said (said.said_members ms)) (sole_call_restricted ms)
      (record_restricted (said.said_members ms) (members_restricted ms))

  items_restricted : (n : ℕ) (js : Items) → SaysSuch (EachSuch IsRestricted) (said.said_items n js)
  items_restricted n no_items = tt
  items_restricted n (item j js) =
      before_each IsRestricted (under _ (said.said j)) (said.said_items (n + 1) js)
      (under_such IsRestricted _ (said.said j) (said_restricted j)) (items_restricted (n + 1) js)

  pub members_restricted : (ms : Members) → SaysSuch (EachSuch IsRestrictedPair) (said.said_members ms)
  members_restricted no_members = tt
  members_restricted (member k j ms) =
      before_each IsRestrictedPair (said.member_said k (said.said j)) (said.said_members ms)
      (member_restricted k (said.said j) (said_restricted j)) (members_restricted ms)

  sole_call_restricted : (ms : Members) → SaysSuch IsRestricted (said.said_sole_call ms)
  sole_call_restricted no_members = tt
  sole_call_restricted (member k j ms) = call_said_restricted j

  call_said_restricted : (j : Json) → SaysSuch IsRestricted (said.said_call j)
  call_said_restricted null = tt
  call_said_restricted (boolean b) = tt
  call_said_restricted (number t) = tt
  call_said_restricted (string t) = tt
  call_said_restricted (array js) = tt
  call_said_restricted (object no_members) = tt
  call_said_restricted (object (member k a no_members)) = tt
  call_said_restricted (object (member k a (member l b no_members))) =
      chosen IsRestricted (bytes_eq k (codes "fn")) _ _
      (call_restricted (as_str a) (said.arguments_said l (said.said b) (said.said_list b))
      (arguments_restricted l (said.said b) (said.said_list b) (said_restricted b) (list_restricted b)))
      (chosen IsRestricted (bytes_eq l (codes "fn")) _ _
      (call_restricted (as_str b) (said.arguments_said k (said.said a) (said.said_list a))
      (arguments_restricted k (said.said a) (said.said_list a) (said_restricted a) (list_restricted a))) tt)
  call_said_restricted (object (member k a (member l b (member m c ms)))) = tt

  list_restricted : (j : Json) → SaysSuch (EachSuch IsRestricted) (said.said_list j)
  list_restricted null = tt
  list_restricted (boolean b) = tt
  list_restricted (number t) = tt
  list_restricted (string t) = tt
  list_restricted (array js) = items_restricted 0 js
  list_restricted (object ms) = tt

-- ---- contexts

in_restricted : (o : Option Members) → SaysSuch IsRestricted (record_in o)
in_restricted None = tt
in_restricted (Some ms) = record_restricted (said.said_members ms) (members_restricted ms)

pub context_restricted : (j : Json) → SaysSuch IsRestricted (context_said j)
context_restricted j = in_restricted (as_object j)
