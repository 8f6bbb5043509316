-- What is replied to a text that is not taken.
use Rattle.std.proofs.Common.{◌≡◌, refl, sym, subst, Result, Ok, Err, IfOk, IfErr, Bool, true, false, None, codes, string_bytes}
use Rattle.std.specs.Str.{IsUtf8}
use Rattle.std.specs.declared.alloc.AllocError.{AllocError}
use Rattle.cedar_endpoints.specs.declared.answers.Status.TheVariants as statuses
use Rattle.cedar_endpoints.specs.declared.reloads.Untaken.{Untaken}
use Rattle.cedar_endpoints.specs.declared.reloads.Untaken.TheVariants as untakens
use Rattle.cedar_endpoints.specs.declared.replies.NotRemade.{NotRemade}
use Rattle.cedar_endpoints.specs.declared.replies.NotRemade.TheVariants as failures
use Rattle.cedar_endpoints.specs.declared.replies.Reply.{Reply}
use Rattle.cedar_endpoints.specs.declared.routes.Replaced.{Replaced}
use Rattle.cedar_endpoints.specs.declared.routes.Route.TheVariants as routes
use Rattle.cedar_endpoints.specs.Asked.{Text}
use Rattle.cedar_endpoints.specs.Documents.{whole}
use Rattle.cedar_endpoints.specs.Reloads.{Refuses, replaced_by, IsUntaken, no_text, refused_as, IsUntakenAs, IsUntakenIf, IsNothingHere, IsPutAlone, IsNotRemade, Reports}
use Rattle.cedar_endpoints.specs.Replies.{Replies, IsFault, error_text}

-- the reply that there is, if there is one
pub untaken_as : (P : Reply → Type 0) (u : Untaken) (o : Result Reply AllocError) → IfOk o P
    → IfOk o (λ r. u ≡ untakens.Replied r) → IfErr o (λ _. u ≡ untakens.Memory) → IsUntakenAs P u
untaken_as P u (Ok r) h same none = subst (λ x. IsUntakenAs P x) (sym same) h
untaken_as P u (Err e) h same none = subst (λ x. IsUntakenAs P x) (sym none) tt

mapped : (P Q : Reply → Type 0) → ((r : Reply) → P r → Q r) → (u : Untaken) → IsUntakenAs P u → IsUntakenAs Q u
mapped P Q f untakens.Memory h = tt
mapped P Q f (untakens.Replied r) h = f r h

module _ (refuses : Refuses) (part : Replaced) (body : Text) (u : Untaken) where
  -- of a body that is no text
  pub no_text_as : (o : Result Reply AllocError) → ¬ IsUtf8 body
      → IfOk o (IsFault statuses.BadRequest (whole (codes "not UTF-8")))
      → IfOk o (λ r. u ≡ untakens.Replied r) → IfErr o (λ _. u ≡ untakens.Memory)
      → IsUntakenAs (IsUntaken refuses part body) u
  no_text_as o is h same none =
      mapped (IsFault statuses.BadRequest (whole (codes "not UTF-8"))) (IsUntaken refuses part body)
      (λ r k. no_text is k) u (untaken_as _ u o h same none)

  -- of a text that is refused
  pub refused_text : (reason : NotRemade) → IsNotRemade (refuses part body) reason → Reports reason u
      → IsUntakenAs (IsUntaken refuses part body) u
  refused_text failures.Memory is h = subst (λ x. IsUntakenAs (IsUntaken refuses part body) x) (sym h) tt
  refused_text (failures.Told error) is h =
      mapped (Replies statuses.BadRequest (error_text (string_bytes error))) (IsUntaken refuses part body)
      (λ r k. refused_as (string_bytes error) is k) u h

-- where no text is taken, nothing is there
pub unreplaced_as : (allows : Bool) (refuses : Refuses) (part : Replaced) (body : Text) (o : Result Reply AllocError)
    → allows ≡ false → IfOk o IsNothingHere → IfOk o (IsUntakenIf allows refuses part body)
unreplaced_as false refuses part body (Ok r) off h = h
unreplaced_as false refuses part body (Err e) off h = tt
unreplaced_as true refuses part body o off h = absurd (cc)

-- where texts are taken, there is `PUT` alone
pub put_on : (allows : Bool) (o : Result Reply AllocError) → allows ≡ true
    → IfOk o (IsFault statuses.PutOnly (whole (codes "there is PUT alone"))) → IfOk o (IsPutAlone allows)
put_on true (Ok r) on h = h
put_on true (Err e) on h = tt
put_on false o on h = absurd (cc)

pub put_off : (allows : Bool) (o : Result Reply AllocError) → allows ≡ false → IfOk o IsNothingHere
    → IfOk o (IsPutAlone allows)
put_off false (Ok r) off h = h
put_off false (Err e) off h = tt
put_off true o off h = absurd (cc)

pub not_allowed : (allows : Bool) (part : Replaced) → replaced_by allows (routes.Reload part) ≡ None → allows ≡ false
not_allowed false part none = refl
not_allowed true part none = absurd (cc)

pub ruleset untold = (untaken_as, no_text_as, refused_text, unreplaced_as, not_allowed, put_on, put_off)
