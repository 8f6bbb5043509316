-- What is read of a text has no unknown, and calls no function that can answer one where none can.
use Rattle.std.specs.Prelude.{List, [], ◌∷◌}
use Rattle.cedar_model.specs.Terms.{Text, Term, literal, variable, slot, unknown, if_then_else, both, either, unary}
use Rattle.cedar_model.specs.Terms.{binary, call, get_attribute, has_attribute, extended_has, like, is_of_type, set_of}
use Rattle.cedar_model.specs.Terms.{record_of, Terms, no_terms, one_term, Fields, no_fields, one_field}
use Rattle.cedar_model.specs.World.{Functions}
use Rattle.cedar_model.specs.Agreement.{NeverAsks, IsKnown, AreKnown, AreKnownAt}
use Rattle.cedar_model.specs.Authorizations.{HaveKnownConditions}
use Rattle.cedar_model.specs.Policies as model
use Rattle.cedar_functions.specs.Functions.{Knowledge}
use Rattle.cedar_text_parser.specs.TermCalls.{TermCallsAreKnown, CallsOfEachAreKnown, CallsOfFieldsAreKnown}
use Rattle.cedar_text_parser.specs.PolicyTermCalls.{CallsOfPoliciesAreKnown, ReadPoliciesCallKnown}
use Rattle.cedar_text_parser.specs.PolicyReading.{AreAllRead}
use Rattle.cedar_text_parser.specs.declared.policies.ParsedPolicies.{ParsedPolicies}
use Rattle.cedar_authorizer.specs.Responding.{considered}

-- functions of which none answers an unknown
pub record NoneAsks : Type 0 where
  pub ans : Functions
  pub never : (f : Text) → NeverAsks ans f

mutual
  term_known : (k : NoneAsks) (c : Knowledge) (t : Term) → TermCallsAreKnown c t → IsKnown k.ans t
  term_known k c (literal l) h = tt
  term_known k c (variable v) h = tt
  term_known k c (slot s) h = tt
  term_known k c (unknown n t) h = h
  term_known k c (if_then_else a b d) (x, y, z) = (term_known k c a x, term_known k c b y, term_known k c d z)
  term_known k c (both a b) (x, y) = (term_known k c a x, term_known k c b y)
  term_known k c (either a b) (x, y) = (term_known k c a x, term_known k c b y)
  term_known k c (unary op a) h = term_known k c a h
  term_known k c (binary op a b) (x, y) = (term_known k c a x, term_known k c b y)
  term_known k c (call f ts) (x, y) = (k.never f, terms_known k c ts y)
  term_known k c (get_attribute a n) h = term_known k c a h
  term_known k c (has_attribute a n) h = term_known k c a h
  term_known k c (extended_has a n ns) h = term_known k c a h
  term_known k c (like a p) h = term_known k c a h
  term_known k c (is_of_type a t) h = term_known k c a h
  term_known k c (set_of ts) h = terms_known k c ts h
  term_known k c (record_of fs) h = fields_known k c fs h

  terms_known : (k : NoneAsks) (c : Knowledge) (ts : Terms) → CallsOfEachAreKnown c ts → AreKnown k.ans ts
  terms_known k c no_terms h = tt
  terms_known k c (one_term t ts) (x, y) = (term_known k c t x, terms_known k c ts y)

  fields_known : (k : NoneAsks) (c : Knowledge) (fs : Fields) → CallsOfFieldsAreKnown c fs → AreKnownAt k.ans fs
  fields_known k c no_fields h = tt
  fields_known k c (one_field n t fs) (x, y) = (term_known k c t x, fields_known k c fs y)

policies_known : (k : NoneAsks) (c : Knowledge) (ps : List model.Policy) → CallsOfPoliciesAreKnown c ps
    → HaveKnownConditions k.ans ps
policies_known k c [] h = tt
policies_known k c (p ∷ ps) (x, y) = (term_known k c p.condition x, policies_known k c ps y)

-- the policies of a text have no unknown, and call nothing that can answer one
pub all_known : ReadPoliciesCallKnown → (k : NoneAsks) {knows : Knowledge} {text : Text} {limit : _} (out : ParsedPolicies)
    → AreAllRead knows text limit out → HaveKnownConditions k.ans (considered out.policies)
all_known calls k {knows} {text} {limit} out read = policies_known k knows (considered out.policies) (calls knows text limit out read).policies
