use Rattle.std.proofs.Common.{◌≡◌, ◌∙◌, ap, subst, OnOk, codes}
use Rattle.nvcc_calls.specs.NormalForm.{with_joined, with_next}
use Rattle.nvcc_calls.proofs.asked.Asked.push_last_values.Goals as goal

-- each call adds its words to those of the call before
pub returns : goal.returns
returns c =
    let a = c.args.self.now in
    let languages = c.in_ok-push_value-2.ensures ∙ ap (with_joined (codes "-x=") a.language) c.in_ok-push_value.ensures in
    let folders = c.in_ok-push_value-4.ensures ∙ ap (with_joined (codes "--keep-dir=") a.keep_directory) (c.in_ok-push_value-3.ensures ∙ ap (with_joined (codes "--threads=") a.threads) languages) in
    let files = c.in_ok-push_next_value.ensures ∙ ap (with_next (codes "-MF") a.dependency_file) folders in
    subst (λ words. OnOk c.push_next_value-2.result (c.push_next_value-2.new.words ≡ with_next (codes "-MT") a.dependency_target words)) files c.push_next_value-2.ensures
