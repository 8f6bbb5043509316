-- Stages of a partial answer, and what is printed of them.
use Rattle.std.proofs.Common.{◌≡◌, refl, sym, ap, subst, ◌∙◌, List, [], ◌∷◌, ◌++◌, map, codes, string_bytes, Option, Some, None, option_map, Result, Ok, Err, IfOk, length, nat_eq, true, false, true≢false, eqb-true}
use Rattle.std.proofs.lemmas.List.{nil_from_length}
use Rattle.std.specs.declared.alloc.AllocError.{AllocError}
use Rattle.json.specs.Json.{Json, array}
use Rattle.json.specs.Print.{print}
use Rattle.json.specs.Tree.{json_tokens}
use Rattle.json.specs.Value.{items_of}
use Rattle.cedar_model.specs.Terms.{Text}
use Rattle.cedar_model.specs.Policies as model
use Rattle.cedar_model.specs.Settings.{shallow}
use Rattle.cedar_model.specs.Configurations.{Configuration}
use Rattle.cedar_decisions.specs.Decisions.{decision_view}
use Rattle.cedar_decisions.specs.declared.decision.Decision.{Decision}
use Rattle.cedar_layers.specs.declared.policies.entities.Entities.{Entities}
use Rattle.cedar_layers.specs.declared.policies.policy_set.PolicySet.{PolicySet}
use Rattle.cedar_layers.specs.Policies.{PolicyView}
use Rattle.cedar_layers.specs.PolicySets.{policies_view}
use Rattle.cedar_layers.specs.Stores.{store_view}
use Rattle.cedar_requests.specs.Requests.{request_view}
use Rattle.cedar_authorizer.specs.declared.responses.partial_response.PartialResponse.{PartialResponse}
use Rattle.cedar_authorizer.specs.ByHand.{BeginsChains, EndsWithHeadline}
use Rattle.cedar_authorizer.specs.Configured.{asked_of}
use Rattle.cedar_authorizer.specs.Responding.{considered}
use Rattle.cedar_authorizer.specs.Running.{request_of, IsRun}
use Rattle.cedar_cli.specs.declared.asked.Asked.{Asked}
use Rattle.cedar_cli.specs.declared.asked.Step.{Step}
use Rattle.cedar_cli.specs.declared.asked.Way.{Way}
use Rattle.cedar_cli.specs.declared.decisions.Printed.{Printed}
use Rattle.cedar_cli.specs.declared.steps.Taken.{Taken}
use Rattle.cedar_cli.specs.Printing.{partial_status, partial_word}
use Rattle.cedar_cli.specs.Questions.{IsPartialRequest}
use Rattle.cedar_cli.specs.Stages.{last_in, response_or, decision_in, AreStages, IsLastWord, IsWordOf, AreWordsAbove, no_words, word_below}
use Rattle.cedar_cli.specs.Stages.{IsStageDocument, AreDocuments, one_document, document_behind, IsOfDocuments, AreDocumented, AreInDocument}
use Rattle.cedar_cli.specs.Inputs.{AreAllTaken, AddsWord, AddsDocument}
use Rattle.cedar_cli.proofs.Stepping.{last_after, assoc_one, append_none}

-- ---- stages

module _ (c : Configuration)
    (begins : (r : PartialResponse) → BeginsChains c r) (ends : (r : PartialResponse) → EndsWithHeadline c r) where
  pub are_stages : (ps : PolicySet) (store : Entities) (q : Asked) (steps : List Step) (first : PartialResponse)
      (later : List Taken) → IsPartialRequest c.extensions c.calls q (request_of first)
      → IsRun c (asked_of c (request_view (request_of first)) (store_view store)) (considered ps) first
      → AreAllTaken c first store steps later → AreStages c (considered ps) store q steps first later
  are_stages ps store q steps first later asked run all =
      let request = request_view (request_of first) in
      let gives = all.goes_on request (store_view store) (considered ps)
      (begins first request (store_view store) (considered ps) refl run) in
      record {
        request_is = asked;
        begins = run;
        last_store = all.last_store;
        chain = all.chain;
        steps_are = all.steps_are;
        taken = all.taken;
        is_chain = gives;
        headline = ends (last_in first later) request (store_view store) (policies_view ps) all.chain gives;
      }

-- ---- words

-- of so many steps the words stand in the text, and this is the last response before those that are left
pub record AreWordsSoFar (first : PartialResponse) (all : List Taken) (left : List Taken) (now : PartialResponse)
    (text : Text) : Type 0 where
  pub done : List Taken
  pub words : AreWordsAbove first done text
  pub last_is : now ≡ last_in first done
  pub all_are : done ++ left ≡ all

module _ (first : PartialResponse) (all : List Taken) where
  pub no_words_yet : (left : List Taken) (now : PartialResponse) (text : Text) → left ≡ all → now ≡ first → text ≡ []
      → AreWordsSoFar first all left now text
  no_words_yet left now text all_left is empty = record {
    done = [];
    words = subst (AreWordsAbove first []) (sym empty) no_words;
    last_is = is;
    all_are = all_left;
  }

  pub word_more : (t : Taken) (left rest : List Taken) (now then : PartialResponse) (before after : Text)
      → left ≡ t ∷ rest → AreWordsSoFar first all left now before → AddsWord now before after
      → then ≡ response_or t.response now → AreWordsSoFar first all rest then after
  word_more t left rest now then before after left_is so_far adds then_is = record {
    done = so_far.done ++ t ∷ [];
    words = subst (AreWordsAbove first (so_far.done ++ t ∷ [])) (sym adds.2)
        (word_below so_far.words t adds.0 (subst (λ r. IsWordOf r adds.0) so_far.last_is adds.1));
    last_is = then_is ∙ ap (response_or t.response) so_far.last_is ∙ sym (last_after first so_far.done t t.response refl);
    all_are = assoc_one so_far.done t rest ∙ ap (λ l. so_far.done ++ l) (sym left_is) ∙ so_far.all_are;
  }

  pub words_of_all : (left : List Taken) (now : PartialResponse) (text : Text) → left ≡ []
      → AreWordsSoFar first all left now text → AreWordsAbove first all text
  words_of_all left now text none so_far =
      subst (λ l. AreWordsAbove first l text)
      (sym (append_none so_far.done) ∙ ap (λ l. so_far.done ++ l) (sym none) ∙ so_far.all_are) so_far.words

pub adds_word : (r : PartialResponse) (text lent before after : Text) → lent ≡ text → IsWordOf r text
    → after ≡ before ++ lent → AddsWord r before after
adds_word r text lent before after same is added =
    (lent, subst (IsWordOf r) (sym same) is, added)

module _ (above : Text) (r : PartialResponse) (d : Option Decision) (is : option_map decision_view d ≡ decision_in r)
    (lines : Text) where
  pub last_word : (o : Result Printed AllocError)
      → IfOk o (λ p. p.status ≡ partial_status (option_map decision_view d))
      → IfOk o (λ p. string_bytes p.output ≡ above ++ (partial_word (option_map decision_view d) ++ (codes "\n" ++ lines)))
      → IfOk o (IsLastWord above r)
  last_word (Ok p) status output = record {
    lines = lines;
    status_is = status ∙ ap partial_status is;
    output_is = output ∙ ap (λ e. above ++ (partial_word e ++ (codes "\n" ++ lines))) is;
  }
  last_word (Err e) status output = tt

-- ---- documents

module _ (text : Text) (ps : List PolicyView) where
  pub in_document : (first : PartialResponse) (later : List Taken) (r : PartialResponse) → r ≡ last_in first later
      → (d : Option Decision) → option_map decision_view d ≡ decision_in r → (j : Json)
      → AreDocumented text ps first later j → (o : Result Printed AllocError)
      → IfOk o (λ p. p.status ≡ partial_status (option_map decision_view d))
      → IfOk o (λ p. string_bytes p.output ≡ print (json_tokens j) ++ codes "\n")
      → IfOk o (AreInDocument text ps first later)
  in_document first later r last d is j says (Ok p) status output = record {
    document = j;
    says = says;
    status_is = status ∙ ap partial_status (is ∙ ap decision_in last);
    output_is = output;
  }
  in_document first later r last d is j says (Err e) status output = tt

  pub record AreDocumentsSoFar (first : PartialResponse) (all : List Taken) (left : List Taken) (now : PartialResponse)
      (js : List Json) : Type 0 where
    pub done : List Taken
    pub documents : AreDocuments text ps first done js
    pub last_is : now ≡ last_in first done
    pub all_are : done ++ left ≡ all

  module _ (first : PartialResponse) (all : List Taken) where
    pub no_documents_yet : (left : List Taken) (now : PartialResponse) (js : List Json) → left ≡ all → now ≡ first
        → AreDocuments text ps first [] js → AreDocumentsSoFar first all left now js
    no_documents_yet left now js all_left is one = record {
      done = [];
      documents = one;
      last_is = is;
      all_are = all_left;
    }

    pub document_more : (t : Taken) (left rest : List Taken) (now then : PartialResponse) (before after : List Json)
        → left ≡ t ∷ rest → AreDocumentsSoFar first all left now before → then ≡ response_or t.response now
        → AddsDocument text ps t.step then before after → AreDocumentsSoFar first all rest then after
    document_more t left rest now then before after left_is so_far then_is adds =
        let last_is : then ≡ last_in first (so_far.done ++ t ∷ []) =
        then_is ∙ ap (response_or t.response) so_far.last_is ∙ sym (last_after first so_far.done t t.response refl) in
        record {
          done = so_far.done ++ t ∷ [];
          documents = subst (AreDocuments text ps first (so_far.done ++ t ∷ [])) (sym adds.2)
              (document_behind so_far.documents t adds.0
              (subst (λ r. IsStageDocument text ps (Some t.step) r adds.0) last_is adds.1));
          last_is = last_is;
          all_are = assoc_one so_far.done t rest ∙ ap (λ l. so_far.done ++ l) (sym left_is) ∙ so_far.all_are;
        }

    pub documents_of_all : (left : List Taken) (now : PartialResponse) (js : List Json) → left ≡ []
        → AreDocumentsSoFar first all left now js → AreDocuments text ps first all js
    documents_of_all left now js none so_far =
        subst (λ l. AreDocuments text ps first l js)
        (sym (append_none so_far.done) ∙ ap (λ l. so_far.done ++ l) (sym none) ∙ so_far.all_are) so_far.documents

  -- of no step the one alone, of more an array
  pub documented_alone : (first : PartialResponse) (later : List Taken) (j : Json) → later ≡ []
      → IsStageDocument text ps None first j → AreDocumented text ps first later j
  documented_alone first later j none is = record {
    documents = j ∷ [];
    are = subst (λ l. AreDocuments text ps first l (j ∷ [])) (sym none) (one_document is);
    is_of = subst (λ l. IsOfDocuments l (j ∷ []) j) (sym none) refl;
  }

  pub documented_in_order : (first : PartialResponse) (later : List Taken) (js : List Json) (j : Json)
      → AreDocuments text ps first later js → ¬ (later ≡ []) → j ≡ array (items_of js)
      → AreDocumented text ps first later j
  documented_in_order first [] js j are some is = absurd (some refl)
  documented_in_order first (t ∷ ts) js j are some is = record { documents = js; are = are; is_of = is }

-- whether a list has no element
pub is_none : (ts : List Taken) → nat_eq (length ts) 0 ≡ true → ts ≡ []
is_none ts h = nil_from_length ts (eqb-true (length ts) 0 h)

pub is_some_list : (ts : List Taken) → nat_eq (length ts) 0 ≡ false → ¬ (ts ≡ [])
is_some_list ts h none = true≢false (sym (ap (λ (l : List Taken). nat_eq (length l) 0) none) ∙ h)

-- ---- members in order

assoc : {A : Type 0} (xs ys zs : List A) → (xs ++ ys) ++ zs ≡ xs ++ (ys ++ zs)
assoc [] ys zs = refl
assoc (x ∷ xs) ys zs = ap (λ l. x ∷ l) (assoc xs ys zs)

module _ (step known behind more all : List (Text × Json)) (e n : Text × Json) where
  pub members_in_order : behind ≡ step ++ known → more ≡ behind ++ e ∷ [] → all ≡ more ++ n ∷ []
      → all ≡ step ++ (known ++ (e ∷ n ∷ []))
  members_in_order is_known is_more is_all =
      is_all ∙ ap (λ l. l ++ n ∷ []) is_more ∙ ap (λ l. (l ++ e ∷ []) ++ n ∷ []) is_known
      ∙ assoc_one (step ++ known) e (n ∷ []) ∙ assoc step known (e ∷ n ∷ [])

-- four members of an object that has none, one after another
pub four_members : (d r e n : Text) (dj rj ej nj dk rk nk : Json) (none one two three four : List (Text × Json))
    → none ≡ [] → one ≡ none ++ (d, dj) ∷ [] → two ≡ one ++ (r, rj) ∷ [] → three ≡ two ++ (e, ej) ∷ []
    → four ≡ three ++ (n, nj) ∷ [] → dj ≡ dk → rj ≡ rk → nj ≡ nk
    → four ≡ (d, dk) ∷ (r, rk) ∷ (e, ej) ∷ (n, nk) ∷ []
four_members d r e n dj rj ej nj dk rk nk none one two three four is_none is_one is_two is_three is_four is_d is_r is_n =
    is_four ∙ ap (λ l. l ++ (n, nj) ∷ []) is_three ∙ ap (λ l. (l ++ (e, ej) ∷ []) ++ (n, nj) ∷ []) is_two
    ∙ ap (λ l. ((l ++ (r, rj) ∷ []) ++ (e, ej) ∷ []) ++ (n, nj) ∷ []) is_one
    ∙ ap (λ l. (((l ++ (d, dj) ∷ []) ++ (r, rj) ∷ []) ++ (e, ej) ∷ []) ++ (n, nj) ∷ []) is_none
    ∙ (λ i. (d, is_d i) ∷ (r, is_r i) ∷ (e, ej) ∷ (n, is_n i) ∷ [])
