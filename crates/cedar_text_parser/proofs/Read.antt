-- What one policy more makes of what was read.
use Rattle.std.proofs.Common.{◌≡◌, ◌∙◌, ℕ, ◌+◌, List, [], ◌∷◌, ◌++◌, length, sym, ap, subst, arith}
use Rattle.std.proofs.Common.{Bool, false, Some, if◌then◌else◌}
use Rattle.std.specs.BTreeMap.{insert_entry}
use Rattle.std.specs.Rc.{rc_str_bytes}
use Rattle.std.specs.declared.alloc.Global.{Global}
use Rattle.std.specs.declared.rc.RcStr.{RcStr}
use Rattle.cedar_model.specs.Policies.{permit, forbid}
use Rattle.cedar_expressions.specs.Nodes.{key_order}
use Rattle.cedar_layers.specs.Policies.{policy_view, policy_parts, policy_location, policy_id_text}
use Rattle.cedar_layers.specs.declared.policies.policy.Annotations.{Annotations}
use Rattle.cedar_layers.specs.declared.policies.policy.Policy.{Policy}
use Rattle.cedar_layers.specs.declared.policies.policy.PolicyID.{PolicyID}
use Rattle.cedar_names.specs.declared.names.Loc.{Loc}
use Rattle.cedar_text_lexer.specs.declared.tokens.Token.{Token}
use Rattle.cedar_text_lexer.specs.Sequence.{token_at, start_at}
use Rattle.cedar_text_syntax.specs.Trees.{Tree, trees}
use Rattle.cedar_text_syntax.specs.PolicyGrammar.{PolicyTree}
use Rattle.cedar_text_syntax.specs.PolicyReading.{HasPolicy}
use Rattle.cedar_text_syntax.specs.declared.policies.Annotation.{Annotation}
use Rattle.cedar_text_syntax.specs.declared.policies.PolicySteps.{PolicySteps}
use Rattle.cedar_functions.specs.Functions.{Knowledge}
use Rattle.cedar_text_parser.specs.Calls.{EachCallsKnown}
use Rattle.cedar_text_parser.specs.Sources.{Tokenized}
use Rattle.cedar_text_parser.specs.declared.errors.ParseError.{ParseError}
use Rattle.cedar_text_parser.specs.Building.{Is}
use Rattle.cedar_text_parser.specs.Reading.{AreFour, four, IsPlaceWithin}
use Rattle.cedar_text_parser.specs.declared.reading.Four.{Four}
use Rattle.cedar_text_parser.specs.PolicyReading.{IsValueAt, Annotated, is_there, AreAnnotated, annotated_behind}
use Rattle.cedar_text_parser.specs.PolicyReading.{IsMadeOf, IsPolicyAt, HasSlot, HasNoSlot, ArePolicies, policy_behind}
use Rattle.cedar_text_parser.specs.PolicyReading.{template_behind, id_of, AreTold, no_error, error_behind, IsTextRefused}
use Rattle.cedar_layers.specs.Policies.{PolicyView, policy_of, condition_parts, ConditionParts, effect_view, SlotValues}
use Rattle.cedar_layers.specs.declared.policies.policy.Effect.{Effect}
use Rattle.cedar_layers.proofs.Slots.{slots_view-empty}
use Rattle.cedar_text_lexer.specs.Values.{word_of}

pub one_annotated : {source : Tokenized} {xs : List Annotation} {es fs : Annotated} {t : Token}
    (x : Annotation) (key value : RcStr Global) → t ≡ token_at source.tokens x.key →
    rc_str_bytes key ≡ word_of source.text t →
    is_there key es ≡ false → IsValueAt source x.value (rc_str_bytes value) →
    fs ≡ insert_entry key_order es key value → AreAnnotated source xs es → AreAnnotated source (xs ++ x ∷ []) fs
one_annotated x key value t_is k_is fresh v f_is h =
    rw f_is (annotated_behind x key value h (rw t_is at k_is) v fresh)

-- the tree of a policy that was read
abbrev tree_of : {all : List Token} {i limit : ℕ} {out : PolicySteps} → HasPolicy all i limit out → PolicyTree
tree_of {out = out} h =
    record {
      annotations = out.annotations.items;
      permits = out.permits;
      principal = h.principal;
      action = h.action;
      resource = h.resource;
      condition = h.condition;
    }

record AreTheirs (source : Tokenized) (p a r c : Tree) (x : Four) : Type 0 where
  of_principal : Is source x.principal p
  of_action : Is source x.action a
  of_resource : Is source x.resource r
  of_condition : Is source x.condition c

theirs : {source : Tokenized} {p a r c : Tree} {x : Four} →
    AreFour source (c ∷ r ∷ a ∷ p ∷ []) x → AreTheirs source p a r c x
theirs (four w x y z) = record { of_principal = w; of_action = x; of_resource = y; of_condition = z }

pub policy_made : {source : Tokenized} {i limit j : ℕ} {out : PolicySteps} {x : Four} {a : Annotations}
    {id : PolicyID} {loc : Loc} {p : Policy} {k : Knowledge} → HasPolicy source.tokens i limit out →
    AreFour source (trees out.steps.items) x →
    AreAnnotated source out.annotations.items a.0.entries → IsMadeOf out.permits id a x loc p →
    EachCallsKnown k source (trees out.steps.items) →
    loc ≡ record { start = out.start; end = out.end } → j ≡ out.next →
    IsPolicyAt k source limit (policy_id_text id) i j p
policy_made {source = source} {i = i} {out = out} {x = x} {a = a} {p = p} {k = k} h f xs m known loc_is j_is =
    let calls : EachCallsKnown k source (h.condition ∷ h.resource ∷ h.action ∷ h.principal ∷ []) =
    subst (λ ts. EachCallsKnown k source ts) h.makes known in
    let g = theirs (subst (λ ts. AreFour source ts x) h.makes f) in
    let parts = m.parts in
    record {
      last = h.last;
      tree = tree_of h;
      annotated = a.0.entries;
      derives = h.derives;
      next = j_is ∙ h.next;
      within = h.within;
      low = h.low;
      id = m.id;
      effect = m.effect;
      are_annotations = xs;
      annotations = m.annotations;
      principal = subst (λ (q : ConditionParts). Is source q.principal h.principal) (sym parts) g.of_principal;
      action = subst (λ (q : ConditionParts). Is source q.action h.action) (sym parts) g.of_action;
      resource = subst (λ (q : ConditionParts). Is source q.resource h.resource) (sym parts) g.of_resource;
      condition = subst (λ (q : ConditionParts). Is source q.when h.condition) (sym parts) g.of_condition;
      slots = m.slots;
      loc = m.loc ∙ ap (λ l. Some l) loc_is ∙ ap (λ s. Some (record { start = s; end = out.end })) h.start
          ∙ ap (λ e. Some (record { start = start_at source.tokens i; end = e })) h.end;
      calls = record {
        principal = calls.1.1.1.0;
        action = calls.1.1.0;
        resource = calls.1.0;
        condition = calls.0;
      };
    }

pub policy_put : {k : Knowledge} {source : Tokenized} {limit i j n : ℕ} {ps qs ts : List Policy}
    {p : Policy} →
    IsPolicyAt k source limit (id_of n) i j p → HasNoSlot source.tokens i j → qs ≡ ps ++ p ∷ [] →
    ArePolicies k source limit i n ps ts → ArePolicies k source limit j (n + 1) qs ts
policy_put there without q_is h = rw q_is (policy_behind h there without)

pub template_put : {k : Knowledge} {source : Tokenized} {limit i j n : ℕ} {ps ts us : List Policy}
    {p : Policy} →
    IsPolicyAt k source limit (id_of n) i j p → HasSlot source.tokens i j → us ≡ ts ++ p ∷ [] →
    ArePolicies k source limit i n ps ts → ArePolicies k source limit j (n + 1) ps us
template_put there slot u_is h = rw u_is (template_behind h there slot)

not_empty : {A : Type 0} (xs : List A) (x : A) → xs ++ x ∷ [] ≡ [] → ⊥
not_empty [] x e = absurd (omega (arith, ap length e))
not_empty (y ∷ xs) x e = absurd (omega (arith, ap length e))

-- where something was refused, nothing is said of what was read
pub refused : {A B : Type 0} {ys : List A} (xs : List A) (x : A) → ys ≡ xs ++ x ∷ [] → ys ≡ [] → B
refused xs x y_is e = absurd (not_empty xs x (sym y_is ∙ e))

pub made_whole : {permits : Bool} {id : PolicyID} {a : Annotations} {x : Four} {l : Loc} {q : Policy}
    (p : Policy) (e : Effect) (env : SlotValues) →
    policy_view p ≡ policy_of e id a (condition_parts x.principal x.action x.resource x.condition) env →
    policy_parts p ≡ condition_parts x.principal x.action x.resource x.condition → policy_view q ≡ policy_view p →
    policy_parts q ≡ policy_parts p → policy_location q ≡ Some l →
    effect_view e ≡ (if permits then permit else forbid) → env.entries ≡ [] → IsMadeOf permits id a x l q
made_whole p e env p_is pp q_is qp l_is e_is empty =
    let all_is = q_is ∙ p_is in
    record {
      effect = ap (λ (v : PolicyView). v.effect) all_is ∙ e_is;
      id = ap (λ (v : PolicyView). v.id) all_is;
      annotations = ap (λ (v : PolicyView). v.annotations) all_is;
      parts = qp ∙ pp;
      slots = ap (λ (v : PolicyView). v.slots) all_is ∙ slots_view-empty env empty;
      loc = l_is;
    }

-- ---- errors

pub told_behind : {k : Knowledge} {text : List ℕ} {limit : ℕ} {es fs : List ParseError} (e : ParseError) →
    fs ≡ es ++ e ∷ [] → IsPlaceWithin text e → IsTextRefused k text limit e → AreTold k text limit es →
    AreTold k text limit fs
told_behind e f_is h refused hs = rw f_is (error_behind e hs h refused)

pub told_alone : {k : Knowledge} {text : List ℕ} {limit : ℕ} {es : List ParseError} {e f : ParseError} → f ≡ e →
    es ≡ [] → IsPlaceWithin text e → IsTextRefused k text limit e → AreTold k text limit (f ∷ es)
told_alone {e = e} f_is e_is h refused = rw (f_is, e_is) (error_behind e no_error h refused)
