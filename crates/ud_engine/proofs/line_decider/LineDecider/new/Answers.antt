use Rattle.ud_engine.proofs.line_decider.LineDecider.new.Goals as goal

pub returns : goal.returns
returns c = λ o e. record {
  read = c.new.ensures.represents o e;
  no_fault = c.new.ensures.no_fault;
  carries = c.bare.ensures;
}
