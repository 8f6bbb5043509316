use Rattle.std.proofs.Common.{◌≡◌, false, ap, refl}
use Rattle.cedar_names.specs.Names.{uid_name}
use Rattle.cedar_requests.specs.Requests.{entry_view}
use Rattle.cedar_text_lexer.specs.declared.errors.ReadError.{ReadError}
use Rattle.cedar_text_parser.specs.Paths.{IsPathRefused}
use Rattle.cedar_json_reader.specs.NamedEntities.{text_of}
use Rattle.cedar_service.specs.Faults.{IsFaultBelow}
use Rattle.cedar_service.specs.Started.{is_read_memory}
use Rattle.cedar_service.proofs.Composed.{because, both}
use Rattle.cedar_service.proofs.partials.text_entry.Goals as goal

pub returns-in-Ok-clause-known : goal.returns-in-Ok-clause-known
returns-in-Ok-clause-known c =
    (uid_name c.in-Ok.uid, text_of c.in-Ok.ensures.ok refl, ap entry_view c.known.ensures)

pub returns-in-Err-clause-refused : goal.returns-in-Err-clause-refused
returns-in-Err-clause-refused c =
    both (λ _. (e : ReadError) × (is_read_memory e ≡ false) × IsPathRefused c.args.text.now e)
    (IsFaultBelow c.args.path.now) c.refuse_text.result
    (because (λ _. is_read_memory c.in-Err.error ≡ false)
    (λ _. (e : ReadError) × (is_read_memory e ≡ false) × IsPathRefused c.args.text.now e)
    (λ t h. (c.in-Err.error, h, c.in-Err.ensures.err)) c.refuse_text.result c.refuse_text.ensures.reading)
    c.refuse_text.ensures.fault
