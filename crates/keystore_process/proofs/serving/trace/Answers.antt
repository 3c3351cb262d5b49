use Rattle.keystore_process.proofs.serving.trace.Goals as goal

pub returns-in-Some : goal.returns-in-Some
returns-in-Some g c = record {
  output = c.output-output.result;
  later = c.write_book.new.sink;
  is_output = c.output-output.ensures;
  traces = rw c.in-Some.is (c.write_book.result, c.write_book.ensures.writes, c.status_of_trace.ensures);
}
