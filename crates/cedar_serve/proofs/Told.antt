-- What is so of a connection with a log, however it ends.
use Rattle.std.proofs.Common.{◌≡◌, ◌∙◌, sym, ap, subst, true, false, List, ℕ, [], ◌∷◌, ◌++◌}
use Rattle.http.specs.declared.request.Request.{Request}
use Rattle.http.specs.Request.{body_of}
use Rattle.http_server.specs.declared.connection.Connection.{Connection}
use Rattle.http_server.specs.declared.response.Response.{Response}
use Rattle.http_server.specs.declared.state.Config.{Config}
use Rattle.http_server.specs.Connection.{config_of, history}
use Rattle.http_server.specs.Exchange.{Call, Chain}
use Rattle.http_server.specs.History.{History, IsServed, new_history}
use Rattle.cedar_endpoints.specs.Answered.{IsAnswered, stays, takes}
use Rattle.cedar_endpoints.specs.declared.service.Decisions.{Decisions}
use Rattle.cedar_log.specs.Lines.{Text as LogText}
use Rattle.cedar_log.specs.Logs.{Known, AreHandedOut, no_call, not_told, told_first, unwritten_first, unread_first}
use Rattle.cedar_log.specs.Logs.{no_memory_first, AreLogged}
use Rattle.cedar_log.specs.declared.logged.Logged.{Logged}
use Rattle.cedar_service.specs.declared.loaded.Loaded.{Loaded}
use Rattle.cedar_service.specs.Loaded.{Texts, IsLoadedOf, Remakes, replaced_with}
use Rattle.cedar_service.specs.Serving.{offers_of, loaded_version, IsNext, kept, taken, AreAnswered}
use Rattle.cedar_serve.specs.Logged.{AreSent, IsLoggedBy}

abbrev answers : Decisions Loaded → Request (List ℕ) → Response → Decisions Loaded → Type 0
answers before request response after =
    IsAnswered (offers_of before) (Remakes before.decider) loaded_version request response before after

-- a step from a service that decides as these texts say leads to one that decides as such texts say
record Step (ts : Texts) (s : Decisions Loaded) (c : Call) (next : Decisions Loaded) : Type 0 where
  texts : Texts
  is_next : IsNext ts s c texts next
  loaded : IsLoadedOf texts next.decider

step : (ts : Texts) (s next : Decisions Loaded) (c : Call) → IsLoadedOf ts s.decider → answers s c.0 c.1 next
    → Step ts s c next
step ts s next c has (stays same served) =
    subst (λ (n : Decisions Loaded). Step ts s c n) (sym same)
    (record { texts = ts; is_next = kept served; loaded = has })
step ts s next c has (takes part made asked is same sent) =
    let loaded : IsLoadedOf (replaced_with part (body_of c.0) ts) made =
    subst (λ (us : Texts). IsLoadedOf (replaced_with part (body_of c.0) us) made) has.texts is in
    subst (λ (n : Decisions Loaded). Step ts s c n) (sym same)
    (record {
      texts = replaced_with part (body_of c.0) ts;
      is_next = taken part made asked loaded sent;
      loaded = loaded;
    })

all_answered : (calls : List Call) (ts : Texts) (s last : Decisions Loaded) → IsLoadedOf ts s.decider
    → Chain answers s calls last → AreAnswered ts s calls last
all_answered [] ts s last has h = (has, h)
all_answered (c ∷ cs) ts s last has (next, one, rest) =
    let t : Step ts s c next = step ts s next c has one in
    (has, (t.texts, next, t.is_next, all_answered cs t.texts next last t.loaded rest))

-- what follows from that memory ran out holds where it did
handed_out : {M N : Type 0} {due sent : List Call} {lines some : LogText} → (M → N) → AreHandedOut M due sent lines some
    → AreHandedOut N due sent lines some
handed_out f no_call = no_call
handed_out f (not_told hands rest) = not_told hands (handed_out f rest)
handed_out f (told_first hands are rest) = told_first hands are (handed_out f rest)
handed_out f (unwritten_first left hands are none rest) = unwritten_first left hands are none rest
handed_out f (unread_first hands why none rest) = unread_first hands why none (handed_out f rest)
handed_out f (no_memory_first hands lacks none rest) = no_memory_first hands (f lacks) none (handed_out f rest)

-- over a connection on which nothing came before, to a log of which nothing was lost
pub logged_over : {L M : Type 0} (contents : L → Known) (s last : Logged (Decisions Loaded) L) (fresh after : Connection)
    → (last.lacked_memory ≡ true → M) → history fresh ≡ new_history → s.log.is_broken ≡ false
    → (calls : List Call) × AreLogged answers contents s calls last
    × ((history after).calls ≡ (history fresh).calls ++ calls)
    → ∥ IsServed (config_of after) (history after) ∥₁ → config_of after ≡ config_of fresh
    → IsLoggedBy s.service (config_of fresh) M (contents s.log.sink) (contents last.log.sink) (history after)
logged_over {L} {M} contents s last fresh after lacks empty whole (calls, logged, are) sent same =
    let all : (history after).calls ≡ calls = are ∙ ap (λ (h : History). h.calls ++ calls) empty in
    record {
      due = logged.due;
      last = last.service;
      answered = λ (ts : Texts). λ (has : IsLoadedOf ts s.service.decider).
          all_answered logged.due ts s.service last.service has logged.answered;
      told = record {
        lines = logged.lines;
        some = logged.some;
        handed_out = subst (λ (cs : List Call). AreHandedOut M logged.due cs logged.lines logged.some) (sym all)
            (handed_out lacks (logged.handed_out whole));
        appended = logged.appended;
      };
      sent = subst (λ (k : Config). ∥ IsServed k (history after) ∥₁) same sent;
    }
