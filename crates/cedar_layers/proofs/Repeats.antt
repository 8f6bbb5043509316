-- Duplicate ids, and a set of policies that is filled one by one.
use Rattle.std.proofs.Common.{◌≡◌, refl, sym, ap, ◌∙◌, Bool, true, false, ◌||◌, true≢false, List, [], ◌∷◌, ◌++◌, append_assoc, map, Some, is_some, if◌then◌else◌}
use Rattle.std.proofs.lemmas.Map.Made.{is_some-lookup}
use Rattle.std.specs.List.{list_any}
use Rattle.std.specs.Map.{keys_of, values_of, lookup}
use Rattle.indexmap.specs.IndexMap.{insert_entry}
use Rattle.cedar_model.specs.Terms.{Text}
use Rattle.cedar_model.specs.Outcomes.{text_eq}
use Rattle.cedar_layers.specs.contracts.policies.policy.PolicyIDPartialEq.TheImpl.{eq-value}
use Rattle.cedar_layers.specs.declared.policies.policy.Policy.{Policy}
use Rattle.cedar_layers.specs.declared.policies.policy.PolicyID.{PolicyID}
use Rattle.cedar_layers.specs.Policies.{policy_view, policy_ids, policy_id_text, first_repeated, first_repeated_after}
use Rattle.cedar_layers.specs.PolicySets.{entry_ids, Adds}

-- ids are equal where their texts are
pub same_by_text : (i k : PolicyID) → eq-value.it i k ≡ text_eq (policy_id_text i) (policy_id_text k)
same_by_text i k = refl

list_any-keys : (i : PolicyID) (es : List (PolicyID × Policy)) → list_any (eq-value.it i) (keys_of es) ≡ list_any (text_eq (policy_id_text i)) (entry_ids es)
list_any-keys i [] = refl
list_any-keys i (e ∷ es) = λ j. same_by_text i e.0 j || list_any-keys i es j

-- a look-up finds an entry where the id's text is among the entries' ids
pub is_some-lookup_id : (i : PolicyID) (es : List (PolicyID × Policy)) → is_some (lookup (eq-value.it i) es) ≡ list_any (text_eq (policy_id_text i)) (entry_ids es)
is_some-lookup_id i es = is_some-lookup (eq-value.it i) es ∙ list_any-keys i es

-- a new id goes last
insert_entry-fresh : (k : PolicyID) (v : Policy) (es : List (PolicyID × Policy)) → list_any (text_eq (policy_id_text k)) (entry_ids es) ≡ false → insert_entry eq-value.it es k v ≡ es ++ (k, v) ∷ []
insert_entry-fresh k v [] h = refl
insert_entry-fresh k v (e ∷ es) h = by (eq-value.it k e.0) refl (insert_entry-fresh k v es)
  where
    by : (b : Bool) → eq-value.it k e.0 ≡ b → (list_any (text_eq (policy_id_text k)) (entry_ids es) ≡ false → insert_entry eq-value.it es k v ≡ es ++ (k, v) ∷ []) → insert_entry eq-value.it (e ∷ es) k v ≡ e ∷ (es ++ (k, v) ∷ [])
    by true p later = absurd (true≢false (sym (ap (λ (b : Bool). b || list_any (text_eq (policy_id_text k)) (entry_ids es)) (sym (same_by_text k e.0) ∙ p)) ∙ h))
    by false p later =
        ap (λ (c : Bool). if c then (e.0, v) ∷ es else e ∷ insert_entry eq-value.it es k v) p ∙ ap (λ (xs : List (PolicyID × Policy)). e ∷ xs) (later (sym (ap (λ (b : Bool). b || list_any (text_eq (policy_id_text k)) (entry_ids es)) (sym (same_by_text k e.0) ∙ p)) ∙ h))

entry_ids-push : (es : List (PolicyID × Policy)) (k : PolicyID) (v : Policy) → entry_ids (es ++ (k, v) ∷ []) ≡ entry_ids es ++ policy_id_text k ∷ []
entry_ids-push [] k v = refl
entry_ids-push (e ∷ es) k v = ap (λ (ts : List Text). policy_id_text e.0 ∷ ts) (entry_ids-push es k v)

values_of-push : (es : List (PolicyID × Policy)) (k : PolicyID) (v : Policy) → values_of (es ++ (k, v) ∷ []) ≡ values_of es ++ v ∷ []
values_of-push [] k v = refl
values_of-push (e ∷ es) k v = ap (λ (vs : List Policy). e.1 ∷ vs) (values_of-push es k v)

-- whether a look-up by this id finds an entry
pub found_by_text : (es : List (PolicyID × Policy)) (i : PolicyID) (t : Text) (b : Bool) → policy_id_text i ≡ t → is_some (lookup (eq-value.it i) es) ≡ b → list_any (text_eq t) (entry_ids es) ≡ b
found_by_text es i t b e h =
    ap (λ (s : Text). list_any (text_eq s) (entry_ids es)) (sym e) ∙ sym (is_some-lookup_id i es) ∙ h

-- an insertion under a new id adds the policy
pub adds : (es new : List (PolicyID × Policy)) (k : PolicyID) (p : Policy) → new ≡ insert_entry eq-value.it es k p → policy_id_text k ≡ policy_id_text p.id → list_any (text_eq (policy_id_text p.id)) (entry_ids es) ≡ false → Adds es new p
adds es new k p e same fresh =
    let last : new ≡ es ++ (k, p) ∷ [] = e ∙ insert_entry-fresh k p es (ap (λ (s : Text). list_any (text_eq s) (entry_ids es)) same ∙ fresh) in
    record {
      values = ap values_of last ∙ values_of-push es k p;
      ids = ap entry_ids last ∙ entry_ids-push es k p ∙ ap (λ (s : Text). entry_ids es ++ s ∷ []) same;
      fresh = fresh;
    }

-- the ids of policies
abbrev pub ids_of : List Policy → List Text
ids_of ps = policy_ids (map policy_view ps)

ids_of-push : (ps : List Policy) (p : Policy) → ids_of (ps ++ p ∷ []) ≡ ids_of ps ++ policy_id_text p.id ∷ []
ids_of-push [] p = refl
ids_of-push (q ∷ ps) p = ap (λ (ts : List Text). policy_id_text q.id ∷ ts) (ids_of-push ps p)

-- of all the policies those before `rest` are in, each under its id, and none was a duplicate
pub record Fills (all : List Policy) (es : List (PolicyID × Policy)) (rest : List Policy) : Type 0 where
  pub taken : values_of es ++ rest ≡ all
  pub ids : entry_ids es ≡ ids_of (values_of es)
  pub unrepeated : first_repeated_after (entry_ids es) (ids_of rest) ≡ first_repeated (ids_of all)

pub fills-first : (all : List Policy) (es : List (PolicyID × Policy)) (rest : List Policy) → es ≡ [] → rest ≡ all → Fills all es rest
fills-first all es rest e f = record {
  taken = λ i. values_of (e i) ++ f i;
  ids = (λ i. entry_ids (e i)) ∙ sym (λ i. ids_of (values_of (e i)));
  unrepeated = λ i. first_repeated_after (entry_ids (e i)) (ids_of (f i));
}

pub fills-more : (all : List Policy) (es new : List (PolicyID × Policy)) (p : Policy) (left rest : List Policy) → left ≡ p ∷ rest → Fills all es left → Adds es new p → Fills all new rest
fills-more all es new p left rest e f a = record {
  taken = ap (λ (ps : List Policy). ps ++ rest) a.values ∙ append_assoc (values_of es) (p ∷ []) rest ∙ ap (λ (ps : List Policy). values_of es ++ ps) (sym e) ∙ f.taken;
  ids = a.ids ∙ ap (λ (ts : List Text). ts ++ policy_id_text p.id ∷ []) f.ids ∙ sym (ids_of-push (values_of es) p) ∙ ap ids_of (sym a.values);
  unrepeated = ap (λ (ts : List Text). first_repeated_after ts (ids_of rest)) a.ids
      ∙ sym (ap (λ (b : Bool). if b then Some (policy_id_text p.id) else first_repeated_after (entry_ids es ++ policy_id_text p.id ∷ []) (ids_of rest)) a.fresh)
      ∙ ap (λ (ps : List Policy). first_repeated_after (entry_ids es) (ids_of ps)) (sym e) ∙ f.unrepeated;
}
