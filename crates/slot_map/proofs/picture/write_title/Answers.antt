use Rattle.std.proofs.Common.{◌≡◌, ℕ, List, [], ◌++◌, ap, ◌∙◌, subst}
use Rattle.std.specs.Fmt.{decimal}
use Rattle.store_model.specs.Images.{version_byte}
use Rattle.script_lines.specs.SinkState.{IsPut}
use Rattle.slot_map.specs.Pictures.{draw_word, title_text}
use Rattle.slot_map.proofs.Parts.{grown}
use Rattle.slot_map.proofs.picture.write_title.Goals as goal

pub returns : goal.returns
unfolding title_text
returns g c =
    let p = c.args.params.now in
    let st = g.W.Sink.state in
    let version : c.from.result ≡ version_byte p.version =
    c.from.ensures ∙ c.version_byte.ensures ∙ ap version_byte c.version.ensures.value in
    let height : c.from-2.result ≡ p.height = c.from-2.ensures ∙ c.height.ensures.value in
    let word : c.draw_word.result.now ≡ draw_word p.kind =
    c.draw_word.ensures.value ∙ ap draw_word c.kind.ensures.value in
    let front = grown c.new-text.result c.push.new.self [] _ c.new-text.ensures c.push.ensures in
    let versions = grown c.push.new.self c.push_number.new.self _ _ front
    (c.push_number.ensures.value ∙ ap (λ (n : ℕ). c.push.new.self ++ decimal n) version) in
    let slots = grown c.push-2.new.self c.push_number-2.new.self _ _
    (grown c.push_number.new.self c.push-2.new.self _ _ versions c.push-2.ensures)
    (c.push_number-2.ensures.value ∙ ap (λ (n : ℕ). c.push-2.new.self ++ decimal n) c.slots.ensures.value) in
    let used = grown c.push-3.new.self c.push_number-3.new.self _ _
    (grown c.push_number-2.new.self c.push-3.new.self _ _ slots c.push-3.ensures) c.push_number-3.ensures.value in
    let heights = grown c.push-4.new.self c.push_number-4.new.self _ _
    (grown c.push_number-3.new.self c.push-4.new.self _ _ used c.push-4.ensures)
    (c.push_number-4.ensures.value ∙ ap (λ (n : ℕ). c.push-4.new.self ++ decimal n) height) in
    let all = grown c.push-5.new.self c.push-6.new.self _ _
    (grown c.push_number-4.new.self c.push-5.new.self _ _ heights c.push-5.ensures)
    (c.push-6.ensures ∙ ap (λ (xs : List ℕ). c.push-5.new.self ++ xs) word) in
    subst (λ (xs : List ℕ). IsPut (st c.args.sink.now) (st c.put.new.self) xs c.put.result)
    (c.as_slice.ensures ∙ grown c.push-6.new.self c.push-7.new.self _ _ all c.push-7.ensures) c.put.ensures
