use Rattle.std.proofs.Common.{◌≡◌, ◌∙◌, map, ap, option_map}
use Rattle.std.specs.String.{string_bytes}
use Rattle.std.proofs.lemmas.Result.{IfOk-weaker}
use Rattle.clap.specs.Simple.{app_of}
use Rattle.store_model.specs.Words.{request_of}
use Rattle.command_line.specs.Requests.{request_seen}
use Rattle.command_line.proofs.LineLemmas.{seen_so}
use Rattle.command_line.proofs.RequestLemmas.{asked_of, refused}
use Rattle.command_line.proofs.words.Words.request.Goals as goal

pub returns-in-Ok : goal.returns-in-Ok
returns-in-Ok c =
    let line = map string_bytes c.as_slice-words.result.now in
    let line_is : line ≡ c.args.self.now = ap (map string_bytes) c.as_slice-words.ensures.value ∙ c.self.view_is in
    asked_of (app_of c.in_ok-line.line) line c.in_ok-line.ensures c.in-Ok.matches c.in-Ok.ensures.matches
    (option_map request_seen c.asked_of.result) (seen_so request_seen _ c.asked_of.result c.asked_of.ensures.right)
    c.asked_of.ensures.whole ∙ ap request_of line_is

pub returns-in-Err : goal.returns-in-Err
returns-in-Err c =
    let line = map string_bytes c.as_slice-words.result.now in
    let line_is : line ≡ c.args.self.now = ap (map string_bytes) c.as_slice-words.ensures.value ∙ c.self.view_is in
    IfOk-weaker c.not_asked.result _ _ (λ asked none.
    ap (option_map request_seen) none.0
    ∙ refused (app_of c.in_ok-line.line) line
    c.in_ok-line.ensures (λ taken. none.1 (c.kind.ensures ∙ c.in-Err.ensures.passes taken))
    ∙ ap request_of line_is) c.not_asked.ensures
