mod LineLaws
mod ReportLaws
mod Rows
