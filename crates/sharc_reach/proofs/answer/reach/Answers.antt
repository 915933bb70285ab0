use Rattle.sharc_reach.proofs.{Imports.{◌≡◌, None, length, map, fold, replicate, ap, sym, ◌∙◌, subst, arith, filter_map, All, graph_of, IsWithin, AreFindings, globals_in, lowered_by, is_found, is_source, quiet_node, marked_by, edge_of_mention, mentions_below}, FirstLemmas.all_reached, PathLemmas.{call_edges, function_nodes, nodes_size, edges_within}}
use Rattle.sharc_reach.proofs.answer.reach.Goals as goal

pub find-requires-clause-few_nodes : goal.find-requires-clause-few_nodes
find-requires-clause-few_nodes c =
    let r = c.args.typed.now in
    let count = c.function_count-functions.result in
    let mentions_are = c.deref-2.ensures.value ∙ c.in_ok-mentions.ensures in
    let nodes_are : c.deref-3.result.now ≡ function_nodes r count = c.deref-3.ensures.value ∙ c.in_ok-nodes.ensures ∙ ap (fold (marked_by r) (replicate count quiet_node)) mentions_are in
    let size : length c.deref-3.result.now ≡ count = ap length nodes_are ∙ nodes_size r count in
    let few = c.if-functions.false in
    omega arith

pub find-requires-clause-within : goal.find-requires-clause-within
find-requires-clause-within c =
    let r = c.args.typed.now in
    let count = c.function_count-functions.result in
    let nodes_are : c.deref-3.result.now ≡ function_nodes r count =
    c.deref-3.ensures.value ∙ c.in_ok-nodes.ensures ∙ ap (fold (marked_by r) (replicate count quiet_node)) (c.deref-2.ensures.value ∙ c.in_ok-mentions.ensures) in
    let edges_are : c.deref-4.result.now ≡ call_edges r count =
    c.deref-4.ensures.value ∙ c.in_ok-edges.ensures ∙ ap (filter_map (edge_of_mention r count)) (c.deref.ensures.value ∙ c.in_ok-mentions.ensures) in
    let size : length c.deref-3.result.now ≡ count = ap length nodes_are ∙ nodes_size r count in
    subst (λ n. All (IsWithin n) c.deref-4.result.now) (sym size) (subst (All (IsWithin count)) (sym edges_are) (edges_within r count (mentions_below r count)))

pub returns : goal.returns
returns c =
    let r = c.args.typed.now in
    let count = c.function_count-functions.result in
    let findings = c.in_ok-findings.findings.items in
    let functions = c.in_ok-functions.functions.items in
    let spawned = c.in_ok-spawned.spawned.items in
    let firsts = c.in_ok-firsts.firsts.items in
    let nodes_are : c.deref-3.result.now ≡ function_nodes r count =
    c.deref-3.ensures.value ∙ c.in_ok-nodes.ensures ∙ ap (fold (marked_by r) (replicate count quiet_node)) (c.deref-2.ensures.value ∙ c.in_ok-mentions.ensures) in
    let edges_are : c.deref-4.result.now ≡ call_edges r count =
    c.deref-4.ensures.value ∙ c.in_ok-edges.ensures ∙ ap (filter_map (edge_of_mention r count)) (c.deref.ensures.value ∙ c.in_ok-mentions.ensures) in
    let found : AreFindings (graph_of (function_nodes r count) (call_edges r count)) findings =
    subst (λ nodes. AreFindings (graph_of nodes (call_edges r count)) findings) nodes_are (subst (λ edges. AreFindings (graph_of c.deref-3.result.now edges) findings) edges_are c.in_ok-findings.ensures) in
    let functions_are : functions ≡ map is_found findings = c.in_ok-functions.ensures ∙ ap (map is_found) c.deref-5.ensures.value in
    let spawned_are : spawned ≡ map is_source findings = c.in_ok-spawned.ensures ∙ ap (map is_source) c.deref-6.ensures.value in
    let firsts_are : firsts ≡ fold (lowered_by r functions) (replicate (length (globals_in r.program.items)) None) (mentions_below r count) =
    c.in_ok-firsts.ensures
    ∙ ap (λ chosen. fold (lowered_by r chosen) (replicate c.global_count.result None) c.deref-8.result.now) c.deref-7.ensures.value
    ∙ ap (λ n. fold (lowered_by r functions) (replicate n None) c.deref-8.result.now) c.global_count.ensures
    ∙ ap (fold (lowered_by r functions) (replicate (length (globals_in r.program.items)) None)) (c.deref-8.ensures.value ∙ c.in_ok-mentions.ensures) in
    all_reached r count c.function_count-functions.ensures findings found record { functions = functions; spawned = spawned; firsts = firsts } functions_are spawned_are firsts_are
