use Rattle.design.proofs.WidthRules.{width_narrow}
use Rattle.running.proofs.RunningRules.{are_bytes}
use Rattle.calls.proofs.CallRules.{long_area, port_refuses, port_accepts, port_register, port_word, value_refuses, write_refuses_port, write_refuses_value, write_makes}
use borrow.Author.Rules.{rules}
use Rattle.calls.proofs.ports.write_within.Goals as goal

pub returns-then-not-writable : goal.returns-then-not-writable
returns-then-not-writable c = search (write_refuses_port, write_refuses_value, long_area, port_refuses, port_accepts, value_refuses, rules)

pub register_width-width-requires : goal.register_width-width-requires
register_width-width-requires c = search (port_register, rules)

pub fits-requires : goal.fits-requires
fits-requires c = search (width_narrow, port_register, rules)

pub returns-then-not-fits : goal.returns-then-not-fits
returns-then-not-fits c = search (write_refuses_port, write_refuses_value, long_area, port_refuses, port_accepts, value_refuses, rules)

pub put_word-requires : goal.put_word-requires
put_word-requires c = search (port_word, rules)

pub returns : goal.returns
returns c = search (write_makes, are_bytes c.put_word.new.registers c.type_inv.registers, rules)
