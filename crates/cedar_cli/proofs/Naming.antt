-- Which policies are named, and how.
use Rattle.std.proofs.Common.{◌≡◌, refl, sym, ap, subst, ◌∙◌, Bool, true, false, cond, ◌||◌, List, [], ◌∷◌, ◌++◌, map, Option, Some, None, option_map, Result, Ok, Err, IfOk, append_assoc}
use Rattle.std.proofs.lemmas.List.{map-append}
use Rattle.std.specs.Cmp.Lexicographic.{slice_cmp, same_text}
use Rattle.std.specs.List.{list_any}
use Rattle.std.specs.Map.{lookup}
use Rattle.std.specs.Ordering.{is_eq, nat_cmp}
use Rattle.std.specs.Rc.{rc_str_bytes}
use Rattle.std.specs.declared.alloc.AllocError.{AllocError}
use Rattle.std.specs.declared.alloc.Global.{Global}
use Rattle.std.specs.declared.rc.RcStr.{RcStr}
use Rattle.json.specs.Json.{Json, string}
use Rattle.cedar_model.specs.Terms.{Text}
use Rattle.cedar_model.specs.Outcomes.{text_eq, has_text}
use Rattle.cedar_model.specs.Policies as model
use Rattle.cedar_names.specs.declared.names.Loc.{Loc}
use Rattle.cedar_expressions.proofs.Records.{text_eq-order}
use Rattle.cedar_layers.specs.Policies.{PolicyView, policy_view, policy_id_text}
use Rattle.cedar_layers.specs.declared.policies.policy.Policy.{Policy}
use Rattle.cedar_layers.specs.declared.policies.policy.PolicyID.{PolicyID}
use Rattle.cedar_authorizer.specs.responses.Kept.{is_same_id}
use Rattle.cedar_authorizer.specs.responses.Readers.{IsCarriedOn}
use Rattle.cedar_authorizer.specs.responses.Rows.{Located}
use Rattle.cedar_authorizer.proofs.Naming.{same_texts}
use Rattle.cedar_json_writer.specs.Reading.{policy_ids}
use Rattle.cedar_json_writer.proofs.Carried.{carried_on}
use Rattle.cedar_cli.specs.Named.{IsLineWhere, AreNameLines, no_names, name_behind}
use Rattle.cedar_cli.specs.Inputs.{NamesNext, AddsNameLine}
use Rattle.cedar_cli.proofs.Stepping.{assoc_one, append_none}

-- ---- annotations

at_text : (key : Text) (es : List (RcStr Global × RcStr Global))
    → option_map rc_str_bytes (lookup (λ k. text_eq key (rc_str_bytes k)) es)
    ≡ lookup (text_eq key) (map (λ e. (rc_str_bytes e.0, rc_str_bytes e.1)) es)
at_text key [] = refl
at_text key (e ∷ es) = by (text_eq key (rc_str_bytes e.0)) _ _ (at_text key es)
  where
    by : (b : Bool) (o : Option (RcStr Global)) (p : Option Text) → option_map rc_str_bytes o ≡ p
        → option_map rc_str_bytes (cond b (Some e.1) o) ≡ cond b (Some (rc_str_bytes e.1)) p
    by true o p h = refl
    by false o p h = h

-- what stands under a key is found by its text
pub found_at : (key : Text) (es : List (RcStr Global × RcStr Global))
    → option_map rc_str_bytes (lookup (λ k. is_eq (slice_cmp nat_cmp key (rc_str_bytes k))) es)
    ≡ lookup (text_eq key) (map (λ e. (rc_str_bytes e.0, rc_str_bytes e.1)) es)
found_at key es =
    ap (λ (test : RcStr Global → Bool). option_map rc_str_bytes (lookup test es)) (λ i k. text_eq-order key (rc_str_bytes k) i)
    ∙ at_text key es

-- ---- a list that goes on

-- so many are done, and one more
pub goes_on : {A : Type 0} (done after more one rest all : List A) → after ≡ done ++ one → more ≡ one ++ rest
    → done ++ more ≡ all → after ++ rest ≡ all
goes_on done after more one rest all is split whole =
    ap (λ l. l ++ rest) is ∙ append_assoc done one rest ∙ ap (λ l. done ++ l) (sym split) ∙ whole

pub strings_split : (one rest : List Text) → map string (one ++ rest) ≡ map string one ++ map string rest
strings_split one rest = map-append string one rest

-- ---- sets of ids

abbrev pub among : Text → List PolicyID → Bool
among t ks = list_any (λ (i : PolicyID). text_eq t (policy_id_text i)) ks

cond_or : (a b : Bool) → cond a true b ≡ (a || b)
cond_or true b = refl
cond_or false b = refl

or_false : (a : Bool) → (a || false) ≡ a
or_false true = refl
or_false false = refl

or_swapped : (a b c : Bool) → (a || (b || c)) ≡ ((b || a) || c)
or_swapped true true c = refl
or_swapped true false c = refl
or_swapped false true c = refl
or_swapped false false c = refl

text_swapped : (s t : Text) → text_eq s t ≡ text_eq t s
text_swapped s t = by (text_eq s t) (text_eq t s) refl refl
  where
    by : (b c : Bool) → text_eq s t ≡ b → text_eq t s ≡ c → b ≡ c
    by true c e g = let same = same_text s t (sym e) in sym e ∙ (λ i. text_eq (same i) (sym same i)) ∙ g
    by false true e g = let same = same_text t s (sym g) in sym e ∙ (λ i. text_eq (sym same i) (same i)) ∙ g
    by false false e g = refl

-- a text is that of an id in the set, once an id of this text is put into it
pub one_named : (old new : List PolicyID) (j : PolicyID) (text : Text) → policy_id_text j ≡ text
    → ((q : PolicyID) → list_any (is_same_id q) new ≡ cond (is_same_id j q) true (list_any (is_same_id q) old))
    → (t : Text) → among t new ≡ (text_eq t text || among t old)
one_named old new j text is puts t =
    same_texts new (j ∷ old)
    (λ q. puts q ∙ cond_or (is_same_id j q) (list_any (is_same_id q) old)
    ∙ ap (λ b. b || list_any (is_same_id q) old) (text_swapped (policy_id_text j) (policy_id_text q))) t
    ∙ ap (λ u. text_eq t u || among t old) is

-- those that are left to be named and those that are named are together as many
abbrev pub NamedWith : List Text → (Text → Bool) → List Text → (Text → Bool) → Type 0
NamedWith left now all before = (t : Text) → (has_text t left || now t) ≡ (has_text t all || before t)

pub next_named : (left rest all : List Text) (now then before : Text → Bool) (text : Text) → left ≡ text ∷ rest
    → ((t : Text) → then t ≡ (text_eq t text || now t)) → NamedWith left now all before
    → NamedWith rest then all before
unfolding has_text
next_named left rest all now then before text is adds so_far t =
    ap (λ b. has_text t rest || b) (adds t) ∙ or_swapped (has_text t rest) (text_eq t text) (now t)
    ∙ ap (λ l. has_text t l || now t) (sym is) ∙ so_far t

pub all_named : (left all : List Text) (now before : Text → Bool) → left ≡ [] → NamedWith left now all before
    → (t : Text) → now t ≡ (has_text t all || before t)
unfolding has_text
all_named left all now before none so_far t = sym (ap (λ l. has_text t l || now t) none) ∙ so_far t

pub none_before : (all : List Text) (now : Text → Bool) (ks : List PolicyID) → ks ≡ []
    → ((t : Text) → now t ≡ (has_text t all || among t ks)) → (t : Text) → now t ≡ has_text t all
none_before all now ks empty is t =
    is t ∙ ap (λ l. has_text t all || among t l) empty ∙ or_false (has_text t all)

-- three lists of ids, one after another
pub three_named : (t : Text) (first second third a b d : List Text) (none one two three : Bool)
    → first ≡ a → second ≡ b → third ≡ d → one ≡ (has_text t first || none) → two ≡ (has_text t second || one)
    → three ≡ (has_text t third || two) → none ≡ false
    → three ≡ (has_text t d || (has_text t b || has_text t a))
three_named t first second third a b d none one two three is_a is_b is_d is_one is_two is_three is_none =
    is_three ∙ ap (λ x. has_text t third || x) (is_two ∙ ap (λ x. has_text t second || x)
    (is_one ∙ ap (λ x. has_text t first || x) is_none ∙ or_false (has_text t first)))
    ∙ (λ i. has_text t (is_d i) || (has_text t (is_b i) || has_text t (is_a i)))

-- the next policy of a response
pub policy_named : (r : Result Policy AllocError) (l : Located) (ls rest : List Located) (all : List Text)
    (now then before : Text → Bool) → ls ≡ l ∷ rest → IfOk r (IsCarriedOn l) → NamesNext r now then
    → NamedWith (policy_ids (carried_on ls)) now all before → NamedWith (policy_ids (carried_on rest)) then all before
policy_named (Ok p) l ls rest all now then before is on names so_far =
    let same : (policy_view p).id ≡ l.row.id = ap (λ (m : model.Policy × Option Loc). m.0.id) on.policy in
    next_named (policy_ids (carried_on ls)) (policy_ids (carried_on rest)) all now then before l.row.id
    (ap (λ x. policy_ids (carried_on x)) is)
    (λ t. names t ∙ ap (λ u. text_eq t u || now t) same) so_far
policy_named (Err e) l ls rest all now then before is on names so_far = absurd names

-- ---- the lines of names

-- so many policies have their lines, and these are left
pub record AreLinesSoFar (is : Text → Bool) (all left : List PolicyView) (lines : Text) : Type 0 where
  pub done : List PolicyView
  pub names : AreNameLines is done lines
  pub all_are : done ++ left ≡ all

module _ (is : Text → Bool) (all : List PolicyView) where
  pub no_lines_yet : (left : List PolicyView) (lines : Text) → left ≡ all → lines ≡ []
      → AreLinesSoFar is all left lines
  no_lines_yet left lines all_left empty = record {
    done = [];
    names = subst (AreNameLines is []) (sym empty) no_names;
    all_are = all_left;
  }

  pub line_more : (p : PolicyView) (left rest : List PolicyView) (before after : Text) → left ≡ p ∷ rest
      → AreLinesSoFar is all left before → AddsNameLine is p before after → AreLinesSoFar is all rest after
  line_more p left rest before after left_is so_far adds = record {
    done = so_far.done ++ p ∷ [];
    names = subst (AreNameLines is (so_far.done ++ p ∷ [])) (sym adds.2)
        (name_behind so_far.names p adds.0 adds.1);
    all_are = assoc_one so_far.done p rest ∙ ap (λ l. so_far.done ++ l) (sym left_is) ∙ so_far.all_are;
  }

  pub lines_of_all : (left : List PolicyView) (lines : Text) → left ≡ [] → AreLinesSoFar is all left lines
      → AreNameLines is all lines
  lines_of_all left lines none so_far =
      subst (λ l. AreNameLines is l lines)
      (sym (append_none so_far.done) ∙ ap (λ l. so_far.done ++ l) (sym none) ∙ so_far.all_are) so_far.names
