-- What is appended and handed out.
use Rattle.std.proofs.Common.{◌≡◌, sym, subst, ◌∙◌, Bool, true, false, not, ℕ, List, ◌++◌, Option, Some, None, inl, inr}
use Rattle.std.specs.Bool.{OnTrue}
use Rattle.std.specs.Io.KnownBytes.{Appends}
use Rattle.http.specs.declared.request.Request.{Request}
use Rattle.http.specs.Request.{head_of, body_of}
use Rattle.http_uri.specs.Uri.{uri_path}
use Rattle.http_server.specs.declared.response.Response.{Response}
use Rattle.json.specs.Json.{document}
use Rattle.cedar_writes.specs.Parts.{AppendsPart}
use Rattle.cedar_log.specs.Lines.{Text}
use Rattle.cedar_log.specs.Exchanges.{hands_out, IsStamp, AreLines, AreFound, AreFoundOf, exchange_text, IsNoJson}
use Rattle.cedar_log.specs.Logs.{Known, IsAppended, whole, broken, IsHandedOut, told, unwritten, IsKeptOr, TellsOrWithholds}
use Rattle.cedar_log.specs.declared.logs.Log.{Log}

module _ {L : Type 0} (contents : L → Known) where
  -- it is whole, or something was lost
  pub appended : (b : Bool) (text bytes : Text) (before after : Log L) → before.is_broken ≡ false
      → after.is_broken ≡ not b → bytes ≡ text → AppendsPart (contents before.sink) (contents after.sink) bytes
      → OnTrue b (Appends (contents before.sink) (contents after.sink) bytes)
      → IsAppended contents text before after b
  appended true text bytes before after was is same part all =
      whole was is (subst (λ (t : Text). Appends (contents before.sink) (contents after.sink) t) same all)
  appended false text bytes before after was is same part all =
      broken part.some part.rest (sym same ∙ part.split) (λ lost. absurd (cc)) is part.appended

  handed : (q : Request (List ℕ)) (due p : Response) (before after : Log L) (lines : Text) (b : Bool)
      → hands_out q due ≡ true → AreLines q due lines → IsAppended contents lines before after b → IsKeptOr b due p
      → IsHandedOut contents q due p before after false
  handed q due p before after lines true hands are app same = told lines hands are app same
  handed q due p before after lines false hands are app none = unwritten lines hands are app none

  pub handed_lines : (q : Request (List ℕ)) (due p : Response) (before after : Log L) (lines text : Text)
      → hands_out q due ≡ true → AreLines q due lines → text ≡ lines
      → TellsOrWithholds contents text due p before after → IsHandedOut contents q due p before after false
  handed_lines q due p before after lines text hands are same (b, app, kept) =
      handed q due p before after lines b hands are
      (subst (λ (t : Text). IsAppended contents t before after b) same app) kept

-- what holds of the given option holds of the one that it is
pub as_given : {A : Type 0} (P : A → Type 0) (o p : A) → o ≡ p → P o → P p
as_given P o p is h = subst P is h

-- the lines are those of the very bodies and fields
pub found_of_parts : (q : Request (List ℕ)) (p : Response) (o : Option Text) (stamp shown path body answer : Text)
    → IsStamp p stamp → shown ≡ stamp → path ≡ uri_path (head_of q).uri → body ≡ body_of q → answer ≡ p.body.items
    → AreFoundOf shown path body answer o → AreFound q p o
found_of_parts q p (Some lines) stamp shown path body answer is same at asks answers (j, is_j, (a, is_a, are)) = record {
  stamp = stamp;
  stamp_is = is;
  asked = j;
  is_asked = subst (λ (t : Text). document t ≡ Some j) asks is_j;
  answered = a;
  is_answered = subst (λ (t : Text). document t ≡ Some a) answers is_a;
  lines_are = are ∙ (λ i. exchange_text (same i) (at i) j a);
}
found_of_parts q p None stamp shown path body answer is same at asks answers (inl none) =
    inl (subst IsNoJson asks none)
found_of_parts q p None stamp shown path body answer is same at asks answers (inr none) =
    inr (subst IsNoJson answers none)
