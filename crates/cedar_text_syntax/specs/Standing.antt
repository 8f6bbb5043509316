-- What a machine has read before the token at which it stands, in each of its states.
use Rattle.std.specs.Prelude.{◌≡◌, ℕ, ◌+◌, ◌≤◌, List, true, false}
use Rattle.cedar_text_lexer.specs.Kinds.{is_identifier}
use Rattle.cedar_text_lexer.specs.declared.tokens.Kind.TheVariants as kind
use Rattle.cedar_text_lexer.specs.declared.tokens.Token.{Token}
use Rattle.cedar_text_syntax.specs.declared.machine.work.Work.{Work}
use Rattle.cedar_text_syntax.specs.declared.machine.State.{State}
use Rattle.cedar_text_syntax.specs.declared.machine.State.TheVariants as state
use Rattle.cedar_text_lexer.specs.Sequence.{kind_at}
use Rattle.cedar_text_syntax.specs.Trees.{trees}
use Rattle.cedar_text_syntax.specs.Grammar.{is_key, IsPath, IsDotted}
use Rattle.cedar_text_syntax.specs.Reading.{Look, Waits, HasOpened, AwaitsKey, Reads, Behind, IsRelated, BehindColons}
use Rattle.cedar_text_syntax.specs.Reading.{BehindDot, IsWhole, IsClosed}

abbrev pub look : Work → Look
look w =
    record {
      frames = w.frames;
      trees = trees w.steps.items;
      level = w.level;
      start = w.start;
      end = w.end;
      height = w.height;
    }

-- the tokens before number i were taken
abbrev pub Stands : List Token → State → Look → ℕ → Type 0
Stands all state.Operand l i = Waits all l.frames l.trees i
Stands all state.Operator l i = Reads all l i
Stands all (state.Number at) l i = Waits all l.frames l.trees at × (kind_at all at ≡ kind.Number) × (i ≡ at + 1)
Stands all (state.Name from s e) l i = Waits all l.frames l.trees from × IsPath all from i s e
Stands all (state.Path from s) l i = Waits all l.frames l.trees from × BehindColons all from i s
Stands all state.Dot l i = Behind all kind.Dot l i × (l.level ≤ 1)
Stands all (state.Member at) l i =
    Behind all kind.Dot l at × (l.level ≤ 1) × (is_identifier (kind_at all at) ≡ true) × (i ≡ at + 1)
Stands all state.Index l i = Behind all kind.OpenBracket l i × (l.level ≤ 1)
Stands all (state.IndexEnd at) l i =
    Behind all kind.OpenBracket l at × (l.level ≤ 1) × (kind_at all at ≡ kind.Text) × (i ≡ at + 1)
Stands all state.First l i = HasOpened all true l.frames l.trees i
Stands all state.FirstKey l i = HasOpened all false l.frames l.trees i
Stands all state.Key l i = AwaitsKey all l.frames l.trees i
Stands all (state.Colon at) l i = AwaitsKey all l.frames l.trees at × (is_key (kind_at all at) ≡ true) × (i ≡ at + 1)
Stands all state.Has l i = IsRelated all kind.Has l i
Stands all (state.HasMore from e) l i = IsRelated all kind.Has l from × IsDotted all from i e
Stands all (state.HasDot from) l i = IsRelated all kind.Has l from × BehindDot all from i
Stands all state.Like l i = IsRelated all kind.Like l i
Stands all state.Is l i = IsRelated all kind.Is l i
Stands all (state.IsMore from s e) l i = IsRelated all kind.Is l from × IsPath all from i s e
Stands all (state.IsPath from s) l i = IsRelated all kind.Is l from × BehindColons all from i s
Stands all state.Finished l i = IsWhole all l.height l.trees i
Stands all (state.Closed at) l i = IsClosed all at l.height l.trees i
