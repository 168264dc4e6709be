use Rattle.std.proofs.Common.{◌≡◌, sym, ap, subst, ◌∙◌}
use Rattle.store_model.specs.Parameters.{Parameters}
use Rattle.store_model.specs.Images.{layout}
use Rattle.store_core.specs.Known.{KnownState, IsKnownTree, TellsTree, one_known}
use Rattle.image_check.specs.Standing.{IsFitting}
use Rattle.store_core.proofs.known.KnownTree.move_on.Goals as goal

pub returns : goal.returns
returns g c =
    let state = g.D.Disk.state in
    let s = c.self.inside in
    let now = c.of.result.value in
    let given : TellsTree (state now) s.params = c.drop-arg-1.given.0 in
    let same : (state now).is_observable ≡ (state s.settled.value).is_observable =
    ap (λ (disk : g.row.D.Denot). (state disk).is_observable) c.of.ensures ∙ c.requires.same
    ∙ sym (ap (λ (k : KnownState g.row.D.Denot). (state k.settled).is_observable) c.self.view_is) in
    let params : s.params ≡ c.args.self.now.params = ap (λ (k : KnownState g.row.D.Denot). k.params) c.self.view_is in
    record {
      call = record {
        params = params;
        settled = c.of.ensures;
        seen = λ observable t fit is.
            let there : IsKnownTree (state now) s.params t = record {
              fitting = subst (λ (p : Parameters). IsFitting t p) (sym params) fit;
              seen = λ seen. ap (λ (disk : g.row.D.Denot). (state disk).bytes) c.of.ensures ∙ is
                  ∙ ap (layout t) (sym params);
              unseen = λ hidden.
                  absurd (hidden (ap (λ (disk : g.row.D.Denot). (state disk).is_observable) c.of.ensures ∙ observable));
            } in
            one_known (state now) s.params given.0 t given.1 there;
        unseen = λ hidden.
            let there : IsKnownTree (state now) s.params s.known.0 = record {
              fitting = s.known.1.fitting;
              seen = λ seen.
                  absurd (hidden (sym (ap (λ (disk : g.row.D.Denot). (state disk).is_observable) c.of.ensures) ∙ seen));
              unseen = λ other. s.known.1.unseen (λ seen. other (same ∙ seen));
            } in
            one_known (state now) s.params given.0 s.known.0 given.1 there
            ∙ ap (λ (k : KnownState g.row.D.Denot). k.tree) c.self.view_is;
      };
    }
