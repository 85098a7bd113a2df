use Rattle.std.proofs.Common.{ℕ, ◌+◌, ◌-◌, not, take, sym, refl, ◌∙◌, rules, tests}
use Rattle.std.proofs.lemmas.Iterator.{YieldsList-from_range, YieldsList-from_map}
use Rattle.std.proofs.lemmas.Iterator.Adapters.{option_map_id}
use Rattle.std.proofs.lemmas.Iterator.Search.{find_from_yields_List}
use Rattle.search.specs.Prefixes.{has}
use Rattle.search.proofs.Entries.{next_found}
use Rattle.search.proofs.prefix.Prefix.next_unused.Goals as goal

pub returns : goal.returns
returns c =
    let n = c.args.self.now.n in
    let q = take c.args.self.now.len c.args.self.now.entries in
    let from = c.args.from in
    next_found n q (n - from) from c.find.result refl (sym (option_map_id c.find.result)
    ∙ find_from_yields_List (λ x. not (has x q)) c.find.new.self _ c.find.result c.find.ensures.ran
    (YieldsList-from_map _ (λ (b : ℕ). b + 1) (YieldsList-from_range from n (n - from) c.map.ensures.source refl)
    c.map.ensures.closure (λ x r p k. search (rules, tests)))
    (λ x b p k. search (rules, tests)))
