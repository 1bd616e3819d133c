use Rattle.std.proofs.Common.{◌≡◌, ◌∙◌, ◌++◌, ap, sym, append_assoc, codes, decimal, refl, List, ℕ}
use Rattle.std.specs.String.{string_bytes}
use Rattle.session.specs.Texts.{crowded_text}
use Rattle.session.proofs.Pushed.{on_ok}
use Rattle.session.proofs.reply.push_crowded.Goals as goal

-- six texts put one behind the other
joined : (s0 s1 s2 s3 s4 s5 s6 a b c d e : List ℕ) → s1 ≡ s0 ++ a → s2 ≡ s1 ++ b → s3 ≡ s2 ++ c → s4 ≡ s3 ++ d → s5 ≡ s4 ++ c → s6 ≡ s5 ++ e
    → s6 ≡ s0 ++ (((((a ++ b) ++ c) ++ d) ++ c) ++ e)
joined s0 s1 s2 s3 s4 s5 s6 a b c d e h1 h2 h3 h4 h5 h6 = rw (h6, h5, h4, h3, h2, h1) (simp append_assoc)

pub returns : goal.returns
unfolding crowded_text
returns c = on_ok _ _ c.push_number-3.result
    (λ last. joined (string_bytes c.args.text.now) (string_bytes c.push_str.new.self) (string_bytes c.push_number.new.text) (string_bytes c.push_str-2.new.self)
    (string_bytes c.push_number-2.new.text) (string_bytes c.push_str-3.new.self) (string_bytes c.push_number-3.new.text)
    (codes "chooseleaf ") (decimal c.args.step) (codes " ") (decimal c.args.one) (decimal c.args.other)
    c.in_ok-push_str.ensures.bytes c.in_ok-push_number.ensures c.in_ok-push_str-2.ensures.bytes
    (c.in_ok-push_number-2.ensures ∙ ap (λ n. string_bytes c.push_str-2.new.self ++ decimal n) c.from.ensures)
    c.in_ok-push_str-3.ensures.bytes (last ∙ ap (λ n. string_bytes c.push_str-3.new.self ++ decimal n) c.from-2.ensures))
    c.push_number-3.ensures
