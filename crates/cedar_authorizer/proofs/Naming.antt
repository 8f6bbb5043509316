-- The ids that are named.
use Rattle.std.proofs.Common.{◌≡◌, Bool, true, false, cond, ◌||◌, List, [], ◌∷◌, ◌++◌, refl, sym, ap, ◌∙◌}
use Rattle.std.proofs.lemmas.List.{append-nil, map-append}
use Rattle.std.proofs.lemmas.Slice.Eq.{bytes_eq-Decides}
use Rattle.std.specs.List.{list_any}
use Rattle.std.specs.Map.{keys_of}
use Rattle.std.proofs.Math.Bool.{or_assoc}
use Rattle.cedar_model.specs.Terms.{Text}
use Rattle.cedar_model.specs.Outcomes.{text_eq, has_text}
use Rattle.cedar_model.specs.Policies.{Effect, permit, forbid}
use Rattle.cedar_model.specs.Responses.{Row}
use Rattle.cedar_model.specs.Chains.{has_effect, rows_of}
use Rattle.cedar_model.specs.Reports.{ids, is_errored, residuals}
use Rattle.cedar_layers.specs.declared.policies.policy.PolicyID.{PolicyID}
use Rattle.cedar_layers.specs.Policies.{policy_id_text}
use Rattle.cedar_authorizer.specs.declared.responses.partial_response.PartialResponse.{PartialResponse}
use Rattle.cedar_authorizer.specs.responses.Kept.{is_same_id}
use Rattle.cedar_authorizer.specs.responses.Rows.{Located, TrueEntry, FalseEntry, ResidualEntry, is_error, located_true}
use Rattle.cedar_authorizer.specs.responses.Rows.{located_false, located_residual, true_rows, false_rows, residual_rows}
use Rattle.cedar_authorizer.specs.responses.Rows.{rows_in, located_view, rows_view, located_of}
use Rattle.cedar_authorizer.specs.responses.Readers.{errored_ids, entry_ids}
use Rattle.cedar_authorizer.specs.responses.Concrete.{id_texts}
use Rattle.cedar_authorizer.proofs.Rows.{of_six, of_dropped, rows_of_located, residuals_permit, residuals_forbid}

-- ---- the ids of entries

pub ids_of_residuals : (e : Effect) (es : List ResidualEntry) → ids (rows_in (residual_rows e es)) ≡ entry_ids es
ids_of_residuals e [] = refl
ids_of_residuals e (x ∷ xs) = ap (λ ts. policy_id_text x.0 ∷ ts) (ids_of_residuals e xs)

pub ids_of_trues : (e : Effect) (es : List TrueEntry) → ids (rows_in (true_rows e es)) ≡ id_texts es
ids_of_trues e [] = refl
ids_of_trues e (x ∷ xs) = ap (λ ts. policy_id_text x.0 ∷ ts) (ids_of_trues e xs)

pub ids_append : (xs ys : List Row) → ids (xs ++ ys) ≡ ids xs ++ ids ys
ids_append xs ys = map-append (λ (r : Row). r.id) xs ys

ids_of_errored : (e : Effect) → has_effect e e ≡ true → (es : List FalseEntry) → ids (rows_in (located_of e is_errored (false_rows e es))) ≡ errored_ids es
unfolding located_of is_errored errored_ids
ids_of_errored e h [] = refl
ids_of_errored e h (x ∷ xs) = rw h (by (is_error x.1.0) _ (errored_ids xs) (ids_of_errored e h xs))
  where
    by : (b : Bool) (ls : List Located) (ts : List Text) → ids (rows_in ls) ≡ ts
        → ids (rows_in (cond b (located_false e x ∷ ls) ls)) ≡ cond b (policy_id_text x.0 ∷ ts) ts
    by true ls ts g = ap (λ us. policy_id_text x.0 ∷ us) g
    by false ls ts g = g

module _ (r : PartialResponse) where
  errored_permits : located_of permit is_errored (located_view r) ≡ located_of permit is_errored (false_rows permit r.false_permits.entries)
  unfolding located_view has_effect is_errored
  errored_permits =
      of_six permit is_errored _ _ _ _ _ _
      ∙ (λ i. of_dropped permit is_errored (located_true permit) (λ x. refl) r.satisfied_permits.entries i
      ++ (located_of permit is_errored (false_rows permit r.false_permits.entries)
      ++ (of_dropped permit is_errored (located_residual permit) (λ x. refl) r.residual_permits.entries i
      ++ (of_dropped permit is_errored (located_true forbid) (λ x. refl) r.satisfied_forbids.entries i
      ++ (of_dropped permit is_errored (located_false forbid) (λ x. refl) r.false_forbids.entries i
      ++ of_dropped permit is_errored (located_residual forbid) (λ x. refl) r.residual_forbids.entries i)))))
      ∙ append-nil _

  errored_forbids : located_of forbid is_errored (located_view r) ≡ located_of forbid is_errored (false_rows forbid r.false_forbids.entries)
  unfolding located_view has_effect is_errored
  errored_forbids =
      of_six forbid is_errored _ _ _ _ _ _
      ∙ (λ i. of_dropped forbid is_errored (located_true permit) (λ x. refl) r.satisfied_permits.entries i
      ++ (of_dropped forbid is_errored (located_false permit) (λ x. refl) r.false_permits.entries i
      ++ (of_dropped forbid is_errored (located_residual permit) (λ x. refl) r.residual_permits.entries i
      ++ (of_dropped forbid is_errored (located_true forbid) (λ x. refl) r.satisfied_forbids.entries i
      ++ (located_of forbid is_errored (false_rows forbid r.false_forbids.entries)
      ++ of_dropped forbid is_errored (located_residual forbid) (λ x. refl) r.residual_forbids.entries i)))))
      ∙ append-nil _

  pub errored_named : ids (rows_of permit is_errored (rows_view r) ++ rows_of forbid is_errored (rows_view r)) ≡ errored_ids r.false_permits.entries ++ errored_ids r.false_forbids.entries
  unfolding has_effect
  errored_named =
      ids_append (rows_of permit is_errored (rows_view r)) _
      ∙ (λ i. ids (rows_of_located permit is_errored (located_view r) i) ++ ids (rows_of_located forbid is_errored (located_view r) i))
      ∙ (λ i. ids (rows_in (errored_permits i)) ++ ids (rows_in (errored_forbids i)))
      ∙ (λ i. ids_of_errored permit refl r.false_permits.entries i ++ ids_of_errored forbid refl r.false_forbids.entries i)

  pub residuals_named : ids (residuals permit (rows_view r) ++ residuals forbid (rows_view r)) ≡ entry_ids r.residual_permits.entries ++ entry_ids r.residual_forbids.entries
  residuals_named =
      ids_append (residuals permit (rows_view r)) _
      ∙ (λ i. ids (residuals_permit r i) ++ ids (residuals_forbid r i))
      ∙ (λ i. ids_of_residuals permit r.residual_permits.entries i ++ ids_of_residuals forbid r.residual_forbids.entries i)

-- ---- a set of ids

abbrev pub among : Text → List PolicyID → Bool
among t ks = list_any (λ (i : PolicyID). text_eq t (policy_id_text i)) ks

-- an id of a text that is among these
id_of_text : (t : Text) (ks : List PolicyID) → among t ks ≡ true → (k : PolicyID) × (t ≡ policy_id_text k)
id_of_text t [] h = absurd (cc)
id_of_text t (k ∷ ks) h = by (text_eq t (policy_id_text k)) refl h (λ g. id_of_text t ks g)
  where
    by : (b : Bool) → text_eq t (policy_id_text k) ≡ b → (b || among t ks) ≡ true
        → (among t ks ≡ true → (j : PolicyID) × (t ≡ policy_id_text j)) → (j : PolicyID) × (t ≡ policy_id_text j)
    by true e g later = (k, (bytes_eq-Decides t (policy_id_text k)).0 e)
    by false e g later = later g

-- lists that have the same ids have the same texts
pub same_texts : (ks xs : List PolicyID) → ((q : PolicyID) → list_any (is_same_id q) ks ≡ list_any (is_same_id q) xs) → (t : Text) → among t ks ≡ among t xs
same_texts ks xs h t = by (among t ks) (among t xs) refl refl
  where
    at : (k : PolicyID) → t ≡ policy_id_text k → among t ks ≡ among t xs
    at k e = ap (λ s. among s ks) e ∙ h k ∙ sym (ap (λ s. among s xs) e)

    by : (b c : Bool) → among t ks ≡ b → among t xs ≡ c → b ≡ c
    by true c e g = let z = id_of_text t ks e in sym e ∙ at z.0 z.1 ∙ g
    by false true e g = let z = id_of_text t xs g in sym e ∙ at z.0 z.1 ∙ g
    by false false e g = refl

pub among_entries : (t : Text) (es : List TrueEntry) → among t (keys_of es) ≡ has_text t (id_texts es)
unfolding has_text
among_entries t [] = refl
among_entries t (e ∷ es) = ap (λ b. text_eq t (policy_id_text e.0) || b) (among_entries t es)

-- ---- ids that are put into a set one by one

-- a text is among those that were put in or are left exactly where it is among all
abbrev pub AreNamedSoFar : List Text → List Text → List PolicyID → List PolicyID → Type 0
AreNamedSoFar first more ks left = (t : Text) → (among t ks || among t left) ≡ has_text t (first ++ more)

has_text_append : (t : Text) (xs ys : List Text) → has_text t (xs ++ ys) ≡ (has_text t xs || has_text t ys)
unfolding has_text
has_text_append t [] ys = refl
has_text_append t (x ∷ xs) ys = ap (λ b. text_eq t x || b) (has_text_append t xs ys) ∙ sym (or_assoc (text_eq t x) (has_text t xs) (has_text t ys))

among_residuals : (t : Text) (es : List ResidualEntry) → among t (keys_of es) ≡ has_text t (entry_ids es)
unfolding has_text
among_residuals t [] = refl
among_residuals t (e ∷ es) = ap (λ b. text_eq t (policy_id_text e.0) || b) (among_residuals t es)

pub named_none : (first : List Text) (es : List ResidualEntry) (ks left : List PolicyID) → ◌≡◌ {A = Text → Bool} (λ t. among t ks) (λ t. has_text t first) → left ≡ keys_of es → AreNamedSoFar first (entry_ids es) ks left
named_none first es ks left h e t =
    (λ i. h i t || (ap (among t) e ∙ among_residuals t es) i) ∙ sym (has_text_append t first (entry_ids es))

same_swapped : (i j : PolicyID) → is_same_id i j ≡ is_same_id j i
same_swapped i j = by (is_same_id i j) (is_same_id j i) refl refl
  where
    by : (b c : Bool) → is_same_id i j ≡ b → is_same_id j i ≡ c → b ≡ c
    by true c e g = sym ((bytes_eq-Decides (policy_id_text j) (policy_id_text i)).1 (sym ((bytes_eq-Decides (policy_id_text i) (policy_id_text j)).0 e))) ∙ g
    by false true e g = sym e ∙ (bytes_eq-Decides (policy_id_text i) (policy_id_text j)).1 (sym ((bytes_eq-Decides (policy_id_text j) (policy_id_text i)).0 g))
    by false false e g = refl

cond_or : (a b : Bool) → cond a true b ≡ (a || b)
cond_or true b = refl
cond_or false b = refl

or_moved : (a b c : Bool) → ((a || b) || c) ≡ (b || (a || c))
or_moved true true c = refl
or_moved true false c = refl
or_moved false b c = refl

-- one more is put in
pub named_more : (first more : List Text) (ks new left rest : List PolicyID) (k j : PolicyID) → left ≡ k ∷ rest → policy_id_text j ≡ policy_id_text k
    → ((q : PolicyID) → list_any (is_same_id q) new ≡ cond (is_same_id j q) true (list_any (is_same_id q) ks)) → AreNamedSoFar first more ks left → AreNamedSoFar first more new rest
named_more first more ks new left rest k j e copied puts before t =
    ap (λ b. b || among t rest) (same_texts new (j ∷ ks) (λ q. puts q ∙ cond_or (is_same_id j q) (list_any (is_same_id q) ks) ∙ ap (λ b. b || list_any (is_same_id q) ks) (same_swapped j q)) t)
    ∙ or_moved (text_eq t (policy_id_text j)) (among t ks) (among t rest)
    ∙ ap (λ u. among t ks || (text_eq t u || among t rest)) copied
    ∙ sym (ap (λ l. among t ks || among t l) e) ∙ before t
